use Rattle.sector_report.specs.Lines.{fault_text}
use Rattle.sector_report.proofs.refused.put_fault.Goals as goal

pub returns-in-UnknownType-clause-bytes : goal.returns-in-UnknownType-clause-bytes
unfolding fault_text
returns-in-UnknownType-clause-bytes c = rw c.in-UnknownType.is (rw c.from.ensures at c.put_named.ensures.bytes)

pub returns-in-DeviceFault-clause-bytes : goal.returns-in-DeviceFault-clause-bytes
unfolding fault_text
returns-in-DeviceFault-clause-bytes c = rw c.in-DeviceFault.is c.put_named-in-DeviceFault.ensures.bytes

pub returns-in-DataAfterEnd-clause-bytes : goal.returns-in-DataAfterEnd-clause-bytes
unfolding fault_text
returns-in-DataAfterEnd-clause-bytes c = rw c.in-DataAfterEnd.is c.put-in-DataAfterEnd.ensures.bytes
