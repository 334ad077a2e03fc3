use Rattle.scp_files.proofs.Lists.{last-greatest}
use Rattle.scp_files.proofs.capture.Capture.last_index.Goals as goal

pub returns-clause-greatest : goal.returns-clause-greatest
returns-clause-greatest c =
    rw (← c.self.view_is) (rw c.indexes-indexes.ensures.value (last-greatest c.self.inside.flux.indexes c.indexes-indexes.ensures.order))
