-- Server-sent events of the list of edits (HTML, section 9.2). A response is whole, so a client asks again, from the place after
-- the last edit that it has: that is the name of an event.
use Rattle.std.specs.Prelude.{ℕ, ◌+◌, List, [], ◌++◌, Option, Some, None, codes, length}
use Rattle.std.specs.Fmt.{decimal}
use Rattle.http_header.specs.FieldValue.{FieldValue}
use Rattle.ds_formula.specs.declared.cells.Shape.{Shape}
use Rattle.ds_server.specs.Replies.{Said, Listed}
use Rattle.ds_server.specs.SessionTexts.{said_text}
use Rattle.ds_http.specs.Reading.{from_in, number_in}

-- the place from which a request asks for events: that of the field `last-event-id`; without it that of the query
abbrev pub events_from : Option FieldValue → Option (List ℕ) → Option ℕ
events_from None query = from_in query
events_from (Some value) query = number_in value.bytes

-- the line that names an event, where it has a part of the list: by the place after that
abbrev pub id_line : Said → List ℕ
id_line (Listed from edits of) = codes "id: " ++ (decimal (from + length edits) ++ codes "\n")
id_line said = []

-- an event whose data is what is said; whoever hears it asks again after a second
abbrev pub event_text : Shape → Said → List ℕ
event_text shape said = codes "retry: 1000\n" ++ id_line said ++ codes "data: " ++ said_text shape said ++ codes "\n"
