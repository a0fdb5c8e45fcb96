-- What a request names, and by which methods it may be asked for.
use Rattle.std.specs.Prelude.{ℕ, List, Bool, ◌||◌, Option, Some, None, codes, bytes_eq, option_map, take, if◌then◌else◌}
use Rattle.ds_analyst.specs.declared.question.Question.TheVariants as questions
use Rattle.ds_http.specs.declared.resource.Resource.{Resource}
use Rattle.ds_http.specs.declared.resource.Resource.TheVariants as names
use Rattle.ds_http.specs.declared.resource.Part.{Part}
use Rattle.ds_http.specs.declared.resource.Part.TheVariants as parts

-- what of the sheet a path names, if anything
abbrev pub part_at : List ℕ → Option Part
part_at path =
    if bytes_eq path (codes "/sheet") then Some parts.Values
    else (if bytes_eq path (codes "/edits") then Some parts.Edits
    else (if bytes_eq path (codes "/events") then Some parts.Events
    else (if bytes_eq (take 7 path) (codes "/cells/") then Some parts.Cell
    else (if bytes_eq (take 7 path) (codes "/edits/") then Some parts.Outcome
    else None))))

-- what a path names, if anything
abbrev pub resource_at : List ℕ → Option Resource
resource_at path =
    if bytes_eq path (codes "/") then Some names.Page
    else (if bytes_eq path (codes "/healthz") then Some names.Health
    else (if bytes_eq path (codes "/metrics") then Some names.Metrics
    else (if bytes_eq path (codes "/lines") then Some names.Lines
    else (if bytes_eq path (codes "/session") then Some names.Session
    else (if bytes_eq path (codes "/explore") then Some (names.OfScript questions.Orders)
    else (if bytes_eq path (codes "/trace") then Some (names.OfScript questions.Run)
    else option_map names.OfSheet (part_at path)))))))

-- whether the method is GET or HEAD (RFC 9110, sections 9.3.1 and 9.3.2)
abbrev pub is_reading : List ℕ → Bool
is_reading method = bytes_eq method (codes "GET") || bytes_eq method (codes "HEAD")

-- whether a part of the sheet may be asked for by the method
abbrev pub part_allows : Part → List ℕ → Bool
part_allows parts.Values method = is_reading method
part_allows parts.Cell method = is_reading method
part_allows parts.Edits method = is_reading method || bytes_eq method (codes "POST")
part_allows parts.Outcome method = is_reading method
part_allows parts.Events method = is_reading method

-- whether a resource may be asked for by the method
abbrev pub allows : Resource → List ℕ → Bool
allows names.Page method = is_reading method
allows names.Health method = is_reading method
allows names.Metrics method = is_reading method
allows (names.OfSheet part) method = part_allows part method
allows names.Lines method = bytes_eq method (codes "POST")
allows names.Session method = bytes_eq method (codes "GET")
allows (names.OfScript question) method = bytes_eq method (codes "POST")

-- the methods by which a part of the sheet may be asked for, as the field `allow` lists them (RFC 9110, section 10.2.1)
abbrev pub part_methods : Part → List ℕ
part_methods parts.Values = codes "GET, HEAD"
part_methods parts.Cell = codes "GET, HEAD"
part_methods parts.Edits = codes "GET, HEAD, POST"
part_methods parts.Outcome = codes "GET, HEAD"
part_methods parts.Events = codes "GET, HEAD"

-- the same, of a resource
abbrev pub methods_of : Resource → List ℕ
methods_of names.Page = codes "GET, HEAD"
methods_of names.Health = codes "GET, HEAD"
methods_of names.Metrics = codes "GET, HEAD"
methods_of (names.OfSheet part) = part_methods part
methods_of names.Lines = codes "POST"
methods_of names.Session = codes "GET"
methods_of (names.OfScript question) = codes "POST"
