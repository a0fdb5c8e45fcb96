-- A session, one line more.
use Rattle.std.proofs.Common.{◌≡◌, ◌≢◌, inr, ℕ, ◌+◌, ◌≤◌, Bool, true, false, List, [], ◌∷◌, ◌++◌, length, length-append, Option, Ok, Err, refl, sym, ap, subst, arith, ◌∙◌}
use Rattle.std.specs.Io.KnownBytes.{Appends}
use Rattle.ds_server.specs.declared.request.LineFault.TheVariants.{LineTooLong}
use Rattle.ds_server.specs.declared.session.Hindrance.{Hindrance}
use Rattle.ds_server.specs.declared.session.Hindrance.TheVariants as hindrances
use Rattle.ds_server.specs.declared.session.SessionEnd.TheVariants as ends
use Rattle.ds_server.specs.SessionLines.{ReadsLine, ReadsLong, ReadsPart, ReadsOver}
use Rattle.ds_server.specs.Replies.{Said, Faulted}
use Rattle.ds_server.specs.Desks.{Rules, joined_after}
use Rattle.ds_server.specs.SessionTexts.{said_text}
use Rattle.ds_server.specs.Session.{Answers, Turns, short, long, Session, turns, Served, Within, OverLimit, Ran}
use Rattle.ds_server.specs.LineAnswers.{Writes, Says, end_of}
use Rattle.ds_script_io.proofs.Known.{Appends-both}

-- ---- one line

module _ {B : Type 0} (rules : Rules B) (most left rest : ℕ) (old new : B) (joined : Option ℕ) (more l : List ℕ) (said : Said) where
  pub turns_short : (line : List ℕ) → ReadsLine most left more line rest → l ≡ line → Says rules false old joined l said new → Turns rules most old joined more said new
  turns_short line r e a = short line said new r.is_line r.short (subst (λ (x : List ℕ). Answers rules old joined x said new) e a)

  pub turns_long : ReadsLong most left more rest → Says rules true old joined l said new → Turns rules most old joined more said new
  turns_long r a =
      subst (λ (s : Said). Turns rules most old joined more s new) (sym a.0)
      (subst (λ (b : B). Turns rules most old joined more (Faulted LineTooLong) b) (sym a.1) (long r.whole r.is_line r.long))

-- ---- one line more

module _ {B : Type 0} (rules : Rules B) (most : ℕ) (first old new : B) (bytes more out : List ℕ) (joined after : Option ℕ) (said : Said) (before now then_ : Option (List ℕ)) (failed_before failed_now : Bool) where
  pub session_more : Session rules most first bytes old joined out → Appends before now out → Turns rules most old joined more said new → after ≡ joined_after joined said
      → Writes (rules.shape old) said now then_ failed_before failed_now (Ok tt)
      → Appends before then_ (out ++ said_text (rules.shape old) said) × Session rules most first (bytes ++ more) new after (out ++ said_text (rules.shape old) said)
  session_more s w t j tells = (
    Appends-both before now then_ out (said_text (rules.shape old) said) w tells.0,
    subst (λ (x : Option ℕ). Session rules most first (bytes ++ more) new x (out ++ said_text (rules.shape old) said)) (sym j) (turns bytes more out old new joined said s t),
  )

  pub session_stops : (limit : ℕ) (stop : Hindrance) → Session rules most first bytes old joined out → Appends before now out → Turns rules most old joined more said new → after ≡ joined_after joined said
      → Writes (rules.shape old) said now then_ failed_before failed_now (Err stop)
      → (end_of stop ≢ ends.WriteFailed → Appends before then_ out) × Ran rules most limit first (bytes ++ more) out new after (end_of stop)
  session_stops limit hindrances.NoMemory s w t j tells = (
    (λ _. subst (λ (o : Option (List ℕ)). Appends before o out) (sym tells.0) w),
    inr (record { lines = bytes; more = more; desk = old; before = joined; said = said; session = s; turn = t; joined_is = j; is = refl }),
  )
  session_stops limit hindrances.WriteFailed s w t j tells = (
    (λ ne. absurd (ne refl)),
    record { lines = bytes; more = more; desk = old; before = joined; said = said; session = s; turn = t; joined_is = j; is = refl },
  )

-- a write that failed is reported
pub stop_told : {B : Type 0} (rules : Rules B) (old : B) (said : Said) (before now : Option (List ℕ)) (failed_before failed_now : Bool) (stop : Hindrance)
    → Writes (rules.shape old) said before now failed_before failed_now (Err stop) → end_of stop ≡ ends.WriteFailed → failed_now ≡ true
stop_told rules old said before now failed_before failed_now hindrances.NoMemory tells is = absurd (cc)
stop_told rules old said before now failed_before failed_now hindrances.WriteFailed tells is = tells

pub stop_hides : {B : Type 0} (rules : Rules B) (old : B) (said : Said) (before now : Option (List ℕ)) (failed_before failed_now : Bool) (stop : Hindrance)
    → Writes (rules.shape old) said before now failed_before failed_now (Err stop) → end_of stop ≢ ends.WriteFailed → failed_now ≡ failed_before
stop_hides rules old said before now failed_before failed_now hindrances.NoMemory tells other = tells.1
stop_hides rules old said before now failed_before failed_now hindrances.WriteFailed tells other = absurd (other refl)

-- ---- ends

-- the lines of a session, with a rest after them, are served
pub served : {B : Type 0} (rules : Rules B) (most : ℕ) (first last : B) (bytes rest out : List ℕ) (joined : Option ℕ) → Session rules most first bytes last joined out → Served rules most first (bytes ++ rest) out rest last joined
served rules most first last bytes rest out joined s = record { lines = bytes; session = s; is = refl }

-- a rest within what could come is within the limit of the session
pub within : (limit left : ℕ) (bytes rest : List ℕ) → length bytes + left ≡ limit → ReadsPart left rest → Within limit (bytes ++ rest) rest
within limit left bytes rest c r = record { no_feed = r.no_feed; within = omega (arith, length-append bytes rest, c, r.within) }

-- a rest over what could come is over the limit of the session
pub over : (limit left : ℕ) (bytes rest : List ℕ) → length bytes + left ≡ limit → ReadsOver left rest → OverLimit limit (bytes ++ rest) rest
over limit left bytes rest c r =
    record {
      front = r.front;
      last = r.last;
      no_feed = r.no_feed;
      is = r.is;
      over = let n : length rest ≡ length r.front + 1 = ap length r.is ∙ length-append r.front (r.last ∷ []) in omega (arith, length-append bytes rest, c, n, r.at);
    }

-- ---- how many bytes

-- what a reader gave grows by no more than the bytes that were read, and then more
pub more_given : (bytes more : List ℕ) (a b c : ℕ) → b ≤ a + length bytes → c ≤ b + length more → c ≤ a + length (bytes ++ more)
more_given bytes more a b c h k = omega (arith, length-append bytes more, h, k)

-- bytes that were read, and then more, with what is left, make up the limit
pub more_counted : (bytes more : List ℕ) (left rest limit : ℕ) → length bytes + left ≡ limit → length more + rest ≡ left → length (bytes ++ more) + rest ≡ limit
more_counted bytes more left rest limit h k = omega (arith, length-append bytes more, h, k)
