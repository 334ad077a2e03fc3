use Rattle.std.proofs.Common.{◌≡◌, ◌≤◌, ◌+◌, ◌*◌, ℕ, List, length, Option, Some, None, IfSome, sym, ap, ◌∙◌, arith}
use Rattle.scp_files.specs.Files.{file_fault, track_offset}
use Rattle.scp_files.specs.lemmas.Beginnings.{in-table, sized}
use Rattle.scp_files.proofs.header.ScpHeader.place_of.Goals as goal

pub returns-in-None-clause-low : goal.returns-in-None-clause-low
returns-in-None-clause-low c =
    let number : ℕ = 2 * c.args.track.cylinder + c.args.track.head in
    let same : 2 * c.from.result + c.from-in-None.result ≡ number = omega (arith, c.from.ensures, c.from-in-None.ensures) in
    in-table c.args.self.now number c.track_numbered.result (c.track_numbered.ensures ∙ ap (track_offset c.args.self.now) same)

long-if : (file : List ℕ) → file_fault file ≡ None → (place : Option ℕ) → IfSome place (λ _. 16 ≤ length file)
long-if file none None = tt
long-if file none (Some offset) = sized file none

pub returns-in-None-clause-size : goal.returns-in-None-clause-size
returns-in-None-clause-size c = long-if c.args.self.now (sym c.fault.ensures ∙ c.in-None.is) c.track_numbered.result
