-- How each verdict looks.
use Rattle.std.specs.Prelude.{ℕ, List, codes}
use Rattle.turn_merge.specs.declared.verdict.Verdict.{Verdict}
use Rattle.turn_merge.specs.declared.verdict.Verdict.TheVariants.{Good as GoodSector}
use Rattle.turn_merge.specs.declared.verdict.Verdict.TheVariants.{Contradictory as ContradictorySector}
use Rattle.turn_merge.specs.declared.verdict.Verdict.TheVariants.{Bad as BadSector}
use Rattle.turn_merge.specs.declared.verdict.Verdict.TheVariants.{Missing as MissingSector}
use Rattle.disk_map.specs.declared.kind.Kind.{Kind}
use Rattle.disk_map.specs.declared.kind.Kind.TheVariants.{Good, Contradictory, Bad, Missing}

-- a verdict without its numbers
abbrev pub kind_of : Verdict → Kind
kind_of (GoodSector _ _ _) = Good
kind_of (ContradictorySector _ _ _ _) = Contradictory
kind_of (BadSector _ _) = Bad
kind_of MissingSector = Missing

-- the name, as the report has it
abbrev pub name_of : Kind → List ℕ
name_of Good = codes "good"
name_of Contradictory = codes "contradictory"
name_of Bad = codes "bad"
name_of Missing = codes "missing"

-- the colour, as red, green and blue in two hexadecimal digits each: green, violet, red, grey
abbrev pub colour_of : Kind → List ℕ
colour_of Good = codes "#5aae61"
colour_of Contradictory = codes "#40004b"
colour_of Bad = codes "#d6301d"
colour_of Missing = codes "#8c8c8c"

-- the shape, in the path steps of SVG from its upper left corner on, ten units wide and high: a
-- square, an hourglass, a cross, a frame
abbrev pub shape_of : Kind → List ℕ
shape_of Good = codes "h10v10h-10z"
shape_of Contradictory = codes "l10 0l-10 10h10z"
shape_of Bad = codes "l3 0l2 3l2 -3h3l-3 5l3 5h-3l-2 -3l-2 3h-3l3 -5z"
shape_of Missing = codes "v10h10v-10zm2 2h6v6h-6z"
