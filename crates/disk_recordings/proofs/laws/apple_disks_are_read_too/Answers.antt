use Rattle.disk_recordings.proofs.laws.apple_disks_are_read_too.Goals as goal

pub returns-clause-dos : goal.returns-clause-dos
returns-clause-dos c = record { headers = c.rules_agree.ensures.both.headers; sectors = c.rules_agree.ensures.both.sectors }

pub returns-clause-prodos : goal.returns-clause-prodos
returns-clause-prodos c = record { headers = c.rules_agree.ensures.both.headers; sectors = c.rules_agree.ensures.both.sectors }
