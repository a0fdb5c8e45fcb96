-- Texts, attributes and tags, as they are written.
use Rattle.std.specs.Prelude.{ℕ, Bool, ◌&&◌, nat_le, nat_eq, not, List, [], ◌∷◌, ◌++◌, codes, if◌then◌else◌}
use Rattle.std.specs.List.{flat_map}
use Rattle.std.specs.Fmt.{decimal}
use Rattle.ds_svg.specs.declared.tag.Tag.{Tag}
use Rattle.ds_svg.specs.declared.tag.Tag.TheVariants as tags
use Rattle.ds_svg.specs.declared.tag.Name.{Name}
use Rattle.ds_svg.specs.declared.tag.Name.TheVariants as names
use Rattle.ds_svg.specs.declared.tag.AttributeValue.{AttributeValue}
use Rattle.ds_svg.specs.declared.tag.AttributeValue.TheVariants as values
use Rattle.ds_svg.specs.declared.tag.Attribute.{Attribute}

-- ---- texts

-- whether a byte stands for itself: it is printable, and none of < > & "
abbrev pub is_plain : ℕ → Bool
is_plain b = nat_le 32 b && (nat_le b 126 && (not (nat_eq b 60) && (not (nat_eq b 62) && (not (nat_eq b 38) && not (nat_eq b 34)))))

-- what stands for a byte: itself, an entity, or a dot
abbrev pub piece_of : ℕ → List ℕ
piece_of b =
    if is_plain b then b ∷ []
    else (if nat_eq b 60 then codes "&lt;"
    else (if nat_eq b 62 then codes "&gt;"
    else (if nat_eq b 38 then codes "&amp;"
    else (if nat_eq b 34 then codes "&quot;"
    else codes "."))))

-- the text with what stands for each of its bytes
abbrev pub escaped : List ℕ → List ℕ
escaped bytes = flat_map piece_of bytes

-- ---- names

-- the name of an element
abbrev pub tag_name : Tag → List ℕ
tag_name tags.Group = codes "g"
tag_name tags.Title = codes "title"
tag_name tags.Style = codes "style"
tag_name tags.Text = codes "text"
tag_name tags.Rect = codes "rect"
tag_name tags.Path = codes "path"
tag_name tags.Circle = codes "circle"
tag_name tags.Definitions = codes "defs"
tag_name tags.Marker = codes "marker"
tag_name tags.Pattern = codes "pattern"

-- the name of an attribute
abbrev pub name_of : Name → List ℕ
name_of names.Class = codes "class"
name_of names.Id = codes "id"
name_of names.X = codes "x"
name_of names.Y = codes "y"
name_of names.CenterX = codes "cx"
name_of names.CenterY = codes "cy"
name_of names.Radius = codes "r"
name_of names.Width = codes "width"
name_of names.Height = codes "height"
name_of names.Outline = codes "d"
name_of names.Transform = codes "transform"
name_of names.ViewBox = codes "viewBox"
name_of names.Namespace = codes "xmlns"
name_of names.Role = codes "role"
name_of names.ReferenceX = codes "refX"
name_of names.ReferenceY = codes "refY"
name_of names.MarkerWidth = codes "markerWidth"
name_of names.MarkerHeight = codes "markerHeight"
name_of names.MarkerUnits = codes "markerUnits"
name_of names.MarkerEnd = codes "marker-end"
name_of names.Orient = codes "orient"
name_of names.PatternUnits = codes "patternUnits"
name_of names.PatternTransform = codes "patternTransform"

-- ---- attributes

-- the value of an attribute
abbrev pub value_text : AttributeValue → List ℕ
value_text (values.Number n) = escaped (decimal n)
value_text (values.Text bytes) = escaped bytes.now

-- an attribute, after a space: NAME="VALUE"
abbrev pub attribute_text : Attribute → List ℕ
attribute_text a = codes " " ++ (name_of a.name ++ (codes "=\"" ++ (value_text a.value ++ codes "\"")))

-- attributes, one after the other
abbrev pub attributes_text : List Attribute → List ℕ
attributes_text attributes = flat_map attribute_text attributes

-- ---- tags

-- the tag that opens an element of this name
abbrev pub open_text : List ℕ → List Attribute → List ℕ
open_text name attributes = codes "<" ++ (name ++ (attributes_text attributes ++ codes ">"))

-- an element with nothing in it
abbrev pub empty_text : List ℕ → List Attribute → List ℕ
empty_text name attributes = codes "<" ++ (name ++ (attributes_text attributes ++ codes "/>"))

-- the tag that closes an element of this name
abbrev pub close_text : List ℕ → List ℕ
close_text name = codes "</" ++ (name ++ codes ">")
