-- What is answered where a call that may fail does not, and the answers to a request for a session.
use Rattle.std.proofs.Common.{◌≡◌, ◌∙◌, ap, sym, subst, ℕ, List, [], ◌++◌, ◌∷◌, Some, Result, Ok, Err, OnOk, append_assoc, codes}
use Rattle.http1.specs.Fields.{Header}
use Rattle.http_header.specs.FieldValue.{FieldValue, plain_value}
use Rattle.http_header.specs.HeaderMap.{Entries, get}
use Rattle.http_server.specs.declared.response.Response.{Response}
use Rattle.http_server.specs.Response.{IsResponse}
use Rattle.websocket.specs.declared.handshake.failure.HandshakeError.{HandshakeError}
use Rattle.websocket.specs.Handshake.{AnswersKey, IsValidKey, accept_key_of}
use Rattle.ds_http.specs.declared.problem.Problem.TheVariants as problems
use Rattle.ds_http.specs.Bodies.{Refuses}
use Rattle.ds_http.specs.Handshakes.{Shakes, agrees, refuses, agreed_by}

-- what follows from a fact of a call that did not fail is a fact of it
pub on_ok : {T E : Type 0} (r : Result T E) {P Q : Type 0} → (P → Q) → OnOk r P → OnOk r Q
on_ok (Ok x) f h = f h
on_ok (Err e) f h = h

-- three fields, one after another, by their values
pub three : {T E : Type 0} (r : Result T E) (old one two last : List Header) (a b c : List ℕ) (v w x : FieldValue) (s t u : List ℕ)
    → v.bytes ≡ s → w ≡ plain_value t → x ≡ plain_value u
    → one ≡ old ++ (a, v.bytes) ∷ [] → two ≡ one ++ (b, w.bytes) ∷ [] → OnOk r (last ≡ two ++ (c, x.bytes) ∷ []) → OnOk r (last ≡ old ++ (a, s) ∷ (b, t) ∷ (c, u) ∷ [])
three r old one two last a b c v w x s t u is_v is_w is_x first second = on_ok r (λ h.
    let e : one ≡ old ++ (a, s) ∷ [] = first ∙ ap (λ (y : List ℕ). old ++ (a, y) ∷ []) is_v in
    let f : two ≡ (old ++ (a, s) ∷ []) ++ (b, t) ∷ [] = second ∙ ap (λ (y : FieldValue). one ++ (b, y.bytes) ∷ []) is_w ∙ ap (λ (y : List Header). y ++ (b, t) ∷ []) e in
    let k : last ≡ ((old ++ (a, s) ∷ []) ++ (b, t) ∷ []) ++ (c, u) ∷ [] = h ∙ ap (λ (y : FieldValue). two ++ (c, y.bytes) ∷ []) is_x ∙ ap (λ (y : List Header). y ++ (c, u) ∷ []) f in
    k ∙ ap (λ (y : List Header). y ++ (c, u) ∷ []) (append_assoc old ((a, s) ∷ []) ((b, t) ∷ [])) ∙ append_assoc old ((a, s) ∷ (b, t) ∷ []) ((c, u) ∷ []))

-- one field, by its value
pub one_field : {T E : Type 0} (r : Result T E) (old last : List Header) (name bytes : List ℕ) (value : FieldValue) → value ≡ plain_value bytes
    → OnOk r (last ≡ old ++ (name, value.bytes) ∷ []) → OnOk r (last ≡ old ++ (name, bytes) ∷ [])
one_field r old last name bytes value is = on_ok r (λ h. h ∙ ap (λ (v : FieldValue). old ++ (name, v.bytes) ∷ []) is)

-- the answer that agrees by the accept key of the key
pub agrees_by : {T E : Type 0} (r : Result T E) (headers : Entries FieldValue) (response : Response) (key value : FieldValue) (bytes accept slice : List ℕ)
    → Some key ≡ get headers (codes "sec-websocket-key") → bytes ≡ key.bytes → AnswersKey (Ok accept) bytes → slice ≡ accept → value ≡ plain_value slice
    → OnOk r (IsResponse 101 (agreed_by value.bytes) [] response) → OnOk r (Shakes headers response)
agrees_by r headers response key value bytes accept slice found is answers cut made =
    let same : value.bytes ≡ accept_key_of key.bytes = ap (λ (v : FieldValue). v.bytes) made ∙ cut ∙ answers.1 ∙ ap accept_key_of is in
    on_ok r (λ h. agrees key (sym found) (subst IsValidKey is answers.0) (subst (λ (x : List ℕ). IsResponse 101 (agreed_by x) [] response) same h))

-- the answer to a key that is not valid
pub refuses_by : {T E : Type 0} (r : Result T E) (headers : Entries FieldValue) (response : Response) (key : FieldValue) (bytes : List ℕ) (why : HandshakeError)
    → Some key ≡ get headers (codes "sec-websocket-key") → bytes ≡ key.bytes → AnswersKey (Err why) bytes
    → OnOk r (Refuses [] problems.BadKey response) → OnOk r (Shakes headers response)
refuses_by r headers response key bytes why found is answers =
    on_ok r (λ h. refuses key (sym found) (λ valid. answers.0 (subst IsValidKey (sym is) valid)) h)
