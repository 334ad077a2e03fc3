-- What words name, if they name anything.
use Rattle.std.specs.Prelude.{Option, Some, None}

-- something that they name, and nothing where there is none
abbrev pub Names : {A : Type 0} → (Is : A → Type 0) → Option A → Type 0
Names Is (Some a) = Is a
Names {A} Is None = (a : A) → ¬ Is a
