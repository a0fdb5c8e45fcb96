-- Known bytes of readers and writers, over several calls.
use Rattle.std.proofs.Common.{ℕ, List, [], ◌++◌, Option, Some, None, refl, sym, ap, ◌∙◌, append_assoc}
use Rattle.std.proofs.lemmas.List.{append-nil}
use Rattle.std.specs.Io.KnownBytes.{Consumes, Appends, Keeps}

-- a reader that nothing was read from has nothing less
pub Consumes-none : (a : Option (List ℕ)) → Consumes a a []
Consumes-none None = tt
Consumes-none (Some xs) = refl

-- bytes read, and then others, are both read, one after the other
pub Consumes-both : (a b c : Option (List ℕ)) (xs ys : List ℕ) → Consumes a b xs → Consumes b c ys → Consumes a c (xs ++ ys)
Consumes-both None b c xs ys h k = tt
Consumes-both (Some a) None c xs ys h k = absurd h
Consumes-both (Some a) (Some b) None xs ys h k = absurd k
Consumes-both (Some a) (Some b) (Some c) xs ys h k = h ∙ ap (λ (l : List ℕ). xs ++ l) k ∙ sym (append_assoc xs ys c)

pub Consumes-Keeps : (a b c : Option (List ℕ)) (xs : List ℕ) → Consumes a b xs → Keeps b c → Consumes a c xs
Consumes-Keeps None b c xs h k = tt
Consumes-Keeps (Some a) None c xs h k = absurd h
Consumes-Keeps (Some a) (Some b) None xs h k = absurd k
Consumes-Keeps (Some a) (Some b) (Some c) xs h k = h ∙ ap (λ (l : List ℕ). xs ++ l) (sym k)

pub Keeps-same : (a : Option (List ℕ)) → Keeps a a
Keeps-same None = tt
Keeps-same (Some xs) = refl

-- a writer that nothing was written to has nothing more
pub Appends-none : (a : Option (List ℕ)) → Appends a a []
Appends-none None = tt
Appends-none (Some xs) = sym (append-nil xs)

-- bytes written, and then others, are both written, one after the other
pub Appends-both : (a b c : Option (List ℕ)) (xs ys : List ℕ) → Appends a b xs → Appends b c ys → Appends a c (xs ++ ys)
Appends-both None b c xs ys h k = tt
Appends-both (Some a) None c xs ys h k = absurd h
Appends-both (Some a) (Some b) None xs ys h k = absurd k
Appends-both (Some a) (Some b) (Some c) xs ys h k = k ∙ ap (λ (l : List ℕ). l ++ ys) h ∙ append_assoc a xs ys

-- what was written stays written where the writer keeps what is known of it
pub Appends-Keeps : (a b c : Option (List ℕ)) (xs : List ℕ) → Appends a b xs → Keeps b c → Appends a c xs
Appends-Keeps None b c xs h k = tt
Appends-Keeps (Some a) None c xs h k = absurd h
Appends-Keeps (Some a) (Some b) None xs h k = absurd k
Appends-Keeps (Some a) (Some b) (Some c) xs h k = k ∙ h
