-- What is known of a file without a fault, and of a track that it has.
use Rattle.std.proofs.Common.{◌≡◌, ◌≤◌, ◌<◌, ◌==◌, ◌&&◌, ◌||◌, if◌then◌else◌, ℕ, Bool, true, false, List, length, nat_le, nat_lt, not, Option, Some, None, IfSome, refl, ap, ◌∙◌, arith}
use Rattle.std.specs.List.{list_all, range_with_len}
use Rattle.std.proofs.lemmas.Bool.Decides.{Decides-ltb, nat_tests}
use Rattle.scp_files.specs.Files.{HEADER_SIZE, TABLE_SIZE, entry_at, entry_end, file_fault, track_offset}
use Rattle.scp_files.specs.declared.fault.ScpFault.{ScpFault}

some_none : {X : Type 0} {x : X} → Some x ≡ None → ⊥
some_none same = cc

not-then : (b : Bool) (fault : ScpFault) (rest : Option ScpFault) → (if b then Some fault else rest) ≡ None → b ≡ false
not-then true fault rest is = absurd (some_none is)
not-then false fault rest is = refl

-- a begin without a fault is long enough
pub sized : (header : List ℕ) → file_fault header ≡ None → 16 ≤ length header
unfolding file_fault
sized header is =
    let long : nat_lt (length header) HEADER_SIZE ≡ false = not-then (nat_lt (length header) HEADER_SIZE) _ _ is in
    grind (arith, nat_tests, long)

-- a track that is there has a number of the table
module _ (file : List ℕ) (number : ℕ) where
  abbrev there : Bool → Bool
  there low = (low && nat_le (entry_end number) (length file))
      && list_all (λ before. entry_at file before == 0 || nat_le (entry_end number) (entry_at file before)) (range_with_len 0 number)

  pub in-table : (offset : Option ℕ) → offset ≡ track_offset file number → IfSome offset (λ _. number < TABLE_SIZE)
  unfolding track_offset
  in-table None at = tt
  in-table (Some place) at = by (nat_lt number TABLE_SIZE) refl
    where
      by : (b : Bool) → nat_lt number TABLE_SIZE ≡ b → number < TABLE_SIZE
      by true low = (Decides-ltb number TABLE_SIZE).0 low
      by false low =
          absurd (some_none (at ∙ ap (λ b. if there b && not (entry_at file number == 0) then Some (entry_at file number) else None) low))
