-- The texts of a picture: SVG, version 1.1 with links of version 2 (W3C).
use Rattle.std.specs.Prelude.{ℕ, ◌+◌, ◌*◌, List, ◌++◌, codes, decimal, flat_map}
use Rattle.std.specs.List.{range_with_len}
use Rattle.flux_base.specs.declared.track.TrackId.{TrackId}
use Rattle.sector_images.specs.Formats.{row}
use Rattle.sector_images.specs.declared.format.Format.{Format}
use Rattle.sector_report.specs.Lines.{named_text}
use Rattle.sector_report.specs.declared.naming.Naming.{Naming}
use Rattle.sector_report.specs.declared.naming.Naming.TheVariants.{Unnamed}
use Rattle.sector_report.specs.declared.totals.Totals.{Totals}
use Rattle.turn_merge.specs.declared.verdict.Verdict.{Verdict}
use Rattle.disk_map.specs.Looks.{colour_of, kind_of, name_of, shape_of}
use Rattle.disk_map.specs.Places.{across, down, field_top, foot_top, height_of, layout_of, left_of}
use Rattle.disk_map.specs.Places.{numbers_across, top_of, width_of}
use Rattle.disk_map.specs.declared.kind.Kind.{Kind}
use Rattle.disk_map.specs.declared.kind.Kind.TheVariants.{Good, Contradictory, Bad, Missing}
use Rattle.disk_map.specs.declared.layout.Layout.{Layout}
use Rattle.disk_map.specs.declared.texts.TheConstants.{LABELS}

-- the picture's begin: its size, its title, which names the command and the format, and its ground
unfoldable pub begin_text : (command : List ℕ) → Format → Layout → List ℕ
begin_text command format layout =
    codes "<svg xmlns=\"http://www.w3.org/2000/svg\" viewBox=\"0 0 " ++ decimal (width_of layout)
    ++ codes " " ++ decimal (height_of layout)
    ++ codes "\" font-family=\"monospace\" font-size=\"9\">\n<title>flux " ++ command ++ codes " "
    ++ (row format).word
    ++ codes
    "</title>\n<rect width=\"100%\" height=\"100%\" fill=\"#ffffff\"/>\n<text x=\"40\" y=\"20\" font-size=\"13\">"
    ++ (row format).word ++ codes "</text>\n"

-- the name of a head, at its grid's place
unfoldable pub heading_text : Layout → (head : ℕ) → List ℕ
heading_text layout head =
    codes "<g transform=\"translate(40 " ++ decimal (top_of layout head)
    ++ codes ")\"><text y=\"-18\">head " ++ decimal head ++ codes "</text>\n"

-- the ground of a grid, and the numbers of cylinders above it
unfoldable pub ground_text : Layout → List ℕ
ground_text layout =
    codes "<rect x=\"-1\" y=\"-1\" width=\"" ++ decimal (across layout) ++ codes "\" height=\""
    ++ decimal (down layout)
    ++ codes "\" fill=\"#eeeeee\"/>\n<svg y=\"-14\" width=\"" ++ decimal (numbers_across layout)
    ++ codes "\" height=\"12\"><use href=\"#columns\"/></svg>\n"

-- the numbers of sectors beside it
unfoldable pub row_labels_text : Layout → List ℕ
row_labels_text layout =
    codes "<svg x=\"-24\" width=\"20\" height=\"" ++ decimal (down layout)
    ++ codes "\" viewBox=\"0 " ++ decimal (12 * layout.first)
    ++ codes " 20 " ++ decimal (down layout) ++ codes "\"><use href=\"#rows\"/></svg></g>\n"

-- the empty grid of a head
abbrev pub grid_text : Layout → (head : ℕ) → List ℕ
grid_text layout head = heading_text layout head ++ ground_text layout ++ row_labels_text layout

-- the numbers at the sides, and the empty grid of each head
abbrev pub grids_text : Layout → List ℕ
grids_text layout =
    LABELS.now ++ flat_map (grid_text layout) (range_with_len 0 (layout.last.head + 1))

-- all that stands before the fields, in a picture that this command draws
abbrev pub top_by : (command : List ℕ) → Format → List ℕ
top_by command format =
    begin_text command format (layout_of format) ++ grids_text (layout_of format)

-- in one that `map` draws
abbrev pub top_text : Format → List ℕ
top_text format = top_by (codes "map") format

-- the colour and the shape of a verdict at a place
unfoldable pub mark_text : Kind → (left top : ℕ) → List ℕ
mark_text kind left top =
    codes "<path fill=\"" ++ colour_of kind ++ codes "\" d=\"M" ++ decimal left ++ codes " "
    ++ decimal top ++ shape_of kind

-- the field of a sector, at its place: its verdict's colour and shape, and as
-- its title its line of the report
abbrev pub field_by : Naming → Layout → TrackId → (sector : ℕ) → Verdict → List ℕ
field_by naming layout track sector verdict =
    mark_text (kind_of verdict) (left_of track) (field_top layout track sector)
    ++ codes "\"><title>" ++ named_text naming track sector verdict ++ codes "</title></path>\n"

-- the same where the line names no source
abbrev pub field_text : Layout → TrackId → (sector : ℕ) → Verdict → List ℕ
field_text layout track sector verdict = field_by Unnamed layout track sector verdict

-- how far below the legend's top a verdict stands
abbrev pub legend_row : Kind → ℕ
legend_row Good = 0
legend_row Contradictory = 16
legend_row Bad = 32
legend_row Missing = 48

-- how many sectors have a verdict
abbrev pub count_of : Totals → Kind → ℕ
count_of totals Good = totals.good
count_of totals Contradictory = totals.contradictory
count_of totals Bad = totals.bad
count_of totals Missing = totals.missing

-- what a verdict looks like, its name, and how many sectors have it
unfoldable pub legend_text : Layout → Totals → Kind → List ℕ
legend_text layout totals kind =
    mark_text kind 40 (foot_top layout + legend_row kind)
    ++ codes "\"/><text x=\"58\" y=\"" ++ decimal (foot_top layout + legend_row kind + 9)
    ++ codes "\">" ++ name_of kind ++ codes " "
    ++ decimal (count_of totals kind) ++ codes "</text>\n"

-- the last line, and the picture's end
unfoldable pub ending_text : Layout → (last : List ℕ) → List ℕ
ending_text layout last =
    codes "<text x=\"40\" y=\"" ++ decimal (foot_top layout + 76) ++ codes "\">" ++ last
    ++ codes "</text>\n</svg>\n"

-- all that stands after the fields: the legend with the totals, and a last line
abbrev pub foot_text : Layout → Totals → (last : List ℕ) → List ℕ
foot_text layout totals last =
    legend_text layout totals Good ++ legend_text layout totals Contradictory
    ++ legend_text layout totals Bad ++ legend_text layout totals Missing
    ++ ending_text layout last

-- a line to the right of the legend
unfoldable pub counts_text : Layout → (line : List ℕ) → List ℕ
counts_text layout line = codes "<text x=\"240\" y=\"" ++ decimal (foot_top layout + 9)
    ++ codes "\">" ++ line ++ codes "</text>\n"
