-- Responses by their fields and their bodies.
use Rattle.std.specs.Prelude.{◌⊎◌, ℕ, List, [], ◌∷◌, ◌++◌, codes}
use Rattle.http1.specs.Fields.{Header}
use Rattle.http_server.specs.declared.response.Response.{Response}
use Rattle.http_server.specs.Response.{IsResponse}
use Rattle.ds_http.specs.declared.reply.Kind.{Kind}
use Rattle.ds_http.specs.declared.reply.Kind.TheVariants as kinds
use Rattle.ds_http.specs.declared.problem.Problem.{Problem}
use Rattle.ds_http.specs.Problems.{problem_status, problem_text}

-- the media type of a body (RFC 9110, section 8.3)
abbrev pub media_type : Kind → List ℕ
media_type kinds.Json = codes "application/json"
media_type kinds.Lines = codes "application/x-ndjson"
media_type kinds.Text = codes "text/plain; charset=utf-8"
media_type kinds.Metrics = codes "text/plain; version=0.0.4; charset=utf-8"
media_type kinds.Events = codes "text/event-stream"
media_type kinds.Picture = codes "image/svg+xml"
media_type kinds.Page = codes "text/html; charset=utf-8"

-- what the page may do: it has all of its code, style and pictures, and speaks to its own server alone (Content Security Policy 3)
abbrev pub policy : List ℕ
policy = codes "default-src 'none'; script-src 'unsafe-inline'; style-src 'unsafe-inline'; img-src data:; connect-src 'self'; base-uri 'none'; form-action 'none'; frame-ancestors 'none'"

-- the fields of every response with a body: what it is, that no cache keeps it, and that nobody guesses what it is
abbrev pub common_fields : Kind → List Header
common_fields kind = (codes "content-type", media_type kind) ∷ (codes "cache-control", codes "no-store") ∷ (codes "x-content-type-options", codes "nosniff") ∷ []

-- the fields of a response with a body of this kind
abbrev pub fields_for : Kind → List Header
fields_for kinds.Page = common_fields kinds.Page ++ (codes "content-security-policy", policy) ∷ []
fields_for kind = common_fields kind

-- the field that says by what a request may act (RFC 9110, section 11.6.1)
abbrev pub denied_fields : List Header
denied_fields = (codes "www-authenticate", codes "Bearer") ∷ []

-- the response says this; or, since memory was short for it, 500 and no body
abbrev pub Says : ℕ → List Header → List ℕ → Response → Type 0
Says status fields text r = IsResponse status fields text r ⊎ IsResponse 500 fields [] r

-- the response says why the request is refused, after these fields
abbrev pub Refuses : List Header → Problem → Response → Type 0
Refuses fields problem r = IsResponse (problem_status problem) (fields ++ fields_for kinds.Json) (problem_text problem) r
