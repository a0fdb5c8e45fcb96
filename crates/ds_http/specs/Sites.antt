-- What is answered to a request, and what it does to the sheet.
use Rattle.std.specs.Prelude.{◌≡◌, ℕ, List, [], ◌∷◌, Bool, true, false, Option, Some, None, bytes_eq, codes}
use Rattle.http.specs.declared.request.Request.{Request}
use Rattle.http.specs.Request.{head_of, body_of}
use Rattle.http_uri.specs.Uri.{uri_path, uri_query}
use Rattle.http_server.specs.declared.response.Response.{Response}
use Rattle.http_server.specs.Response.{IsResponse}
use Rattle.ds_formula.specs.declared.cells.Cell.{Cell}
use Rattle.ds_server.specs.declared.request.LineFault.TheVariants as fault
use Rattle.ds_server.specs.declared.session.SessionEnd.{SessionEnd}
use Rattle.ds_server.specs.DeskCalls.{Call, Get, Listing, Resolve, View}
use Rattle.ds_server.specs.Replies.{Faulted, Said}
use Rattle.ds_server.specs.SessionLimits.{HISTORY_MOST}
use Rattle.ds_server.specs.SessionTexts.{said_text}
use Rattle.ds_server.specs.Desks.{Rules}
use Rattle.ds_http.specs.declared.reply.Kind.TheVariants as kinds
use Rattle.ds_http.specs.declared.metrics.Metrics.{Metrics}
use Rattle.ds_http.specs.declared.problem.Problem.TheVariants as problems
use Rattle.ds_http.specs.declared.resource.Resource.{Resource}
use Rattle.ds_http.specs.declared.resource.Resource.TheVariants as names
use Rattle.ds_http.specs.declared.resource.Part.{Part}
use Rattle.ds_http.specs.declared.resource.Part.TheVariants as parts
use Rattle.ds_http.specs.Resources.{resource_at, allows, methods_of}
use Rattle.ds_http.specs.Origins.{is_own}
use Rattle.http_header.specs.FieldValue.{FieldValue}
use Rattle.http_header.specs.HeaderMap.{get}
use Rattle.ds_http.specs.Tokens.{bears}
use Rattle.ds_http.specs.Bodies.{fields_for, denied_fields, Says, Refuses}
use Rattle.ds_http.specs.Handshakes.{Shakes}
use Rattle.ds_http.specs.MetricTexts.{metrics_text}
use Rattle.ds_http.specs.Statuses.{status_of, status_at}
use Rattle.ds_http.specs.Edits.{Posts}
use Rattle.ds_http.specs.Lines.{whole_lines, Plays}
use Rattle.ds_http.specs.Reading.{cell_in, from_in, key_in}
use Rattle.ds_http.specs.Events.{event_text, events_from}
use Rattle.ds_http.specs.Scripts.{AnswersQuestionIf}
use Rattle.ds_analyst.specs.declared.question.Question.{Question}
use Rattle.ds_analyst.specs.declared.question.Analysis.{Analysis}

-- the response is what the sheet has said, as a session's line of it, with its status
abbrev pub SaysOf : {B : Type 0} → Rules B → B → Said → Response → Type 0
SaysOf rules old said r = Says (status_of said) (fields_for kinds.Json) (said_text (rules.shape old) said) r

-- the answer to a request is what the desk answers to this call
pub record AnswersCall {B : Type 0} (rules : Rules B) (old : B) (call : Call) (r : Response) (new : B) : Type 0 where
  pub said : Said
  pub does : rules.does old call said new
  pub says : SaysOf rules old said r

-- the answer to `GET /cells/NAME`: what the cell is, where the path names one of the sheet
abbrev pub AnswersCell : {B : Type 0} → Rules B → B → Option Cell → Response → B → Type 0
AnswersCell rules old None r new = Refuses [] problems.NotFound r × (new ≡ old)
AnswersCell rules old (Some cell) r new = AnswersCall rules old (Get None cell) r new

-- the answer to `GET /edits/KEY`: what became of the edit with the key, where the path names one
abbrev pub AnswersOutcome : {B : Type 0} → Rules B → B → Option (List ℕ) → Response → B → Type 0
AnswersOutcome rules old None r new = Refuses [] problems.NotFound r × (new ≡ old)
AnswersOutcome rules old (Some key) r new = AnswersCall rules old (Resolve key) r new

-- what is said to a query for the list of edits: a part of it; or that the query is bad
abbrev pub ListsFrom : {B : Type 0} → Rules B → B → Option ℕ → Said → B → Type 0
ListsFrom rules old None said new = (said ≡ Faulted fault.BadField) × (new ≡ old)
ListsFrom rules old (Some from) said new = rules.does old (Listing from HISTORY_MOST) said new

-- the answer to `GET /edits?from=N`
pub record AnswersList {B : Type 0} (rules : Rules B) (old : B) (from : Option ℕ) (r : Response) (new : B) : Type 0 where
  pub said : Said
  pub lists : ListsFrom rules old from said new
  pub says : SaysOf rules old said r

-- the answer to `GET /events`: the same as an event, from the place from which the request asks for events
pub record AnswersEvents {B : Type 0} (rules : Rules B) (old : B) (from : Option ℕ) (r : Response) (new : B) : Type 0 where
  pub said : Said
  pub lists : ListsFrom rules old from said new
  pub says : Says (status_of said) (fields_for kinds.Events) (event_text (rules.shape old) said) r

-- the value of the field by which a request gives its edit a key, if it is there
abbrev pub key_value : Request (List ℕ) → Option FieldValue
key_value request = get (head_of request).headers (codes "idempotency-key")

-- the answer to `POST /edits`: what the edit that the head's field and the body ask for is answered
pub record AnswersEdit {B : Type 0} (rules : Rules B) (old : B) (head : Option FieldValue) (body : List ℕ) (r : Response) (new : B) : Type 0 where
  pub said : Said
  pub posts : Posts rules old head body said new
  pub says : SaysOf rules old said r

-- the answer to a request for the list of edits, or for a new one by `POST`
abbrev pub AnswersEdits : {B : Type 0} → Rules B → B → Bool → Request (List ℕ) → Response → B → Type 0
AnswersEdits rules old true request r new = AnswersEdit rules old (key_value request) (body_of request) r new
AnswersEdits rules old false request r new = AnswersList rules old (from_in (uri_query (head_of request).uri)) r new

-- the answer to a request for this of the sheet
abbrev pub AnswersOf : {B : Type 0} → Rules B → B → Part → Request (List ℕ) → Response → B → Type 0
AnswersOf rules old parts.Values request r new = AnswersCall rules old (View None) r new
AnswersOf rules old parts.Cell request r new = AnswersCell rules old (cell_in (rules.shape old) (uri_path (head_of request).uri)) r new
AnswersOf rules old parts.Edits request r new = AnswersEdits rules old (bytes_eq (head_of request).method (codes "POST")) request r new
AnswersOf rules old parts.Events request r new =
    AnswersEvents rules old (events_from (get (head_of request).headers (codes "last-event-id")) (uri_query (head_of request).uri)) r new
AnswersOf rules old parts.Outcome request r new = AnswersOutcome rules old (key_in (uri_path (head_of request).uri)) r new

-- the same, and whether the request has the token
abbrev pub AnswersOfIf : {B : Type 0} → Rules B → B → Bool → Part → Request (List ℕ) → Response → B → Type 0
AnswersOfIf rules old true part request r new = AnswersOf rules old part request r new
AnswersOfIf rules old false part request r new = Refuses denied_fields problems.Denied r × (new ≡ old)

-- whether a request may act by a process of the desk
abbrev pub may_act : {B : Type 0} → Rules B → B → Request (List ℕ) → Bool
may_act rules old request = bears (rules.token old) (get (head_of request).headers (codes "authorization"))

-- the answer to `POST /lines`: the answers of a session whose lines are the body
pub record AnswersLines {B : Type 0} (rules : Rules B) (old : B) (body : List ℕ) (r : Response) (new : B) : Type 0 where
  pub answers : List ℕ
  pub end : SessionEnd
  pub plays : Plays rules old (whole_lines body) answers end new
  pub says : Says (status_at end) (fields_for kinds.Lines) answers r

-- the answer to `GET /metrics`: the text of numbers that are given
pub record AnswersMetrics (Gives : Metrics → Type 0) (r : Response) : Type 0 where
  pub metrics : Metrics
  pub given : Gives metrics
  pub says : Says 200 (fields_for kinds.Metrics) (metrics_text metrics) r

-- the same, and whether the request has the token
abbrev pub AnswersMetricsIf : (Metrics → Type 0) → Bool → Response → Type 0
AnswersMetricsIf Gives true r = AnswersMetrics Gives r
AnswersMetricsIf Gives false r = Refuses denied_fields problems.Denied r

-- the answer to a request for a resource, by a method that it allows, of the server with this page, whose numbers are given so
-- and whose analyst may find this, and the sheet before and after it
abbrev pub Obeys : {B : Type 0} → Rules B → (Metrics → Type 0) → (Question → List ℕ → Analysis → Type 0) → List ℕ → B → Resource → Request (List ℕ) → Response → B → Type 0
Obeys rules Gives Finds page old names.Page request r new = IsResponse 200 (fields_for kinds.Page) page r × (new ≡ old)
Obeys rules Gives Finds page old names.Health request r new = IsResponse 200 (fields_for kinds.Text) (codes "ok\n") r × (new ≡ old)
Obeys rules Gives Finds page old names.Metrics request r new = AnswersMetricsIf Gives (may_act rules old request) r × (new ≡ old)
Obeys rules Gives Finds page old (names.OfSheet part) request r new = AnswersOfIf rules old (may_act rules old request) part request r new
Obeys rules Gives Finds page old names.Lines request r new = AnswersLines rules old (body_of request) r new
Obeys rules Gives Finds page old names.Session request r new = Shakes (head_of request).headers r × (new ≡ old)
Obeys rules Gives Finds page old (names.OfScript question) request r new = AnswersQuestionIf (Finds question (body_of request)) (may_act rules old request) question r × (new ≡ old)

-- the same, where the method may be another one
abbrev pub ObeysIf : {B : Type 0} → Rules B → (Metrics → Type 0) → (Question → List ℕ → Analysis → Type 0) → List ℕ → B → Bool → Resource → Request (List ℕ) → Response → B → Type 0
ObeysIf rules Gives Finds page old true resource request r new = Obeys rules Gives Finds page old resource request r new
ObeysIf rules Gives Finds page old false resource request r new = Refuses ((codes "allow", methods_of resource) ∷ []) problems.MethodNotAllowed r × (new ≡ old)

-- the same, where the path may name nothing
abbrev pub ObeysAt : {B : Type 0} → Rules B → (Metrics → Type 0) → (Question → List ℕ → Analysis → Type 0) → List ℕ → B → Option Resource → Request (List ℕ) → Response → B → Type 0
ObeysAt rules Gives Finds page old None request r new = Refuses [] problems.NotFound r × (new ≡ old)
ObeysAt rules Gives Finds page old (Some resource) request r new = ObeysIf rules Gives Finds page old (allows resource (head_of request).method) resource request r new

-- the same, where the request may come from elsewhere: it is refused then, whatever it asks for
abbrev pub AnswersIf : {B : Type 0} → Rules B → (Metrics → Type 0) → (Question → List ℕ → Analysis → Type 0) → List ℕ → B → Bool → Request (List ℕ) → Response → B → Type 0
AnswersIf rules Gives Finds page old true request r new = ObeysAt rules Gives Finds page old (resource_at (uri_path (head_of request).uri)) request r new
AnswersIf rules Gives Finds page old false request r new = Refuses [] problems.ForeignOrigin r × (new ≡ old)

-- the answer to a request, of the server of this address with this page, whose numbers are given so and whose analyst may find
-- this, and the sheet before and after it
abbrev pub Answers : {B : Type 0} → Rules B → (Metrics → Type 0) → (Question → List ℕ → Analysis → Type 0) → List ℕ → List ℕ → B → Request (List ℕ) → Response → B → Type 0
Answers rules Gives Finds address page old request r new = AnswersIf rules Gives Finds page old (is_own (head_of request).headers address) request r new
