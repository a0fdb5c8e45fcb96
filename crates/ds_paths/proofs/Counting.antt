-- Numbers that are what edges bring are those of paths.
use Rattle.std.proofs.Common.{ℕ, set, zero, suc, ◌≡◌, ◌<◌, ◌+◌, ◌∙◌, refl, sym, ap, subst, inl, inr, List, [], ◌∷◌, ◌++◌, length, map, get_or, arith, Bool, true, false, true≢false, length-append}
use Rattle.std.specs.Prelude.{◌≢◌, ◌⊎◌, ◌==◌, All, AllPairs, Contains, min, sum_by, take, if◌then◌else◌}
use Rattle.std.proofs.lemmas.Bool.{and_parts, cases_eq, cases_order, eq-eqb, eqb-false, eqb-true, ne_eqb}
use Rattle.std.proofs.lemmas.List.{get_or_default, get_or-set_other, length-map, length-set, same_from_push}
use Rattle.std.proofs.lemmas.Grind.{get_or-set_at}
use lib.Pointwise.{pointwise}
use lib.Dec.{eqb}
use Rattle.std.proofs.lemmas.List.Elements.{All-append, All-contains, All-map, All-nil, All-weaker, Contains-append_left, Contains-append_right}
use Rattle.std.proofs.lemmas.List.Kept.{AllPairs-cons}
use Rattle.std.proofs.lemmas.List.Sums.{sum_by-cons, sum_by_more}
use Rattle.ds_paths.proofs.Lists.{all_by, contains_cases, contains_head, contains_map, contains_tail, pairs_append, pairs_head, pairs_map, pairs_none, pairs_tail}
use Rattle.ds_paths.specs.declared.graph.Edge.{Edge}
use Rattle.ds_paths.specs.Paths.{AreAllPaths, AreApart, AreCounts, COUNT_MOST, IsCount, Path, no_edge, one_edge_more}
use Rattle.ds_paths.specs.Sums.{AreSums, LeadsUp, brought, sum_at}

-- ---- paths

module _ {L : Type 0} (edges : List (Edge L)) (apart : AreApart edges) where
  -- two edges of one label that leave one vertex are one edge
  same_edge : (a b : Edge L) → Contains edges a → Contains edges b → a.from ≡ b.from → a.by ≡ b.by → a ≡ b
  same_edge a b h k from by =
      let other : get_or edges k.0 a ≡ b = get_or_default edges k.0 a b k.1 ∙ k.2 in
      elim (cases_order h.0 k.0) [
        | inl e ↦ sym h.2 ∙ ap (λ (n : ℕ). get_or edges n a) e ∙ other
        | inr order ↦ elim order [
          | inl less ↦ absurd (apart h.0 k.0 a less k.1 (ap (λ (e : Edge L). e.from) h.2 ∙ from ∙ sym (ap (λ (e : Edge L). e.from) other)) (ap (λ (e : Edge L). e.by) h.2 ∙ by ∙ sym (ap (λ (e : Edge L). e.by) other)))
          | inr less ↦ absurd (apart k.0 h.0 a less h.1 (ap (λ (e : Edge L). e.from) other ∙ sym from ∙ sym (ap (λ (e : Edge L). e.from) h.2)) (ap (λ (e : Edge L). e.by) other ∙ sym by ∙ sym (ap (λ (e : Edge L). e.by) h.2)))
        ]
      ]

  no_push : (labels : List L) (x : L) → [] ≡ labels ++ x ∷ [] → ⊥
  no_push labels x e =
      let long : length (labels ++ x ∷ []) ≡ length labels + 1 = length-append labels (x ∷ []) in
      let none : 0 ≡ length (labels ++ x ∷ []) = ap (λ (l : List L). length l) e in
      omega (arith, long, none)

  -- the labels of a path determine the vertex that it leads to
  one_end : (p q : List L) (u v : ℕ) → Path edges p u → Path edges q v → p ≡ q → u ≡ v
  one_end _ _ _ _ no_edge no_edge e = refl
  one_end _ _ _ _ no_edge (one_edge_more labels edge path there) e = absurd (no_push labels edge.by e)
  one_end _ _ _ _ (one_edge_more labels edge path there) no_edge e = absurd (no_push labels edge.by (sym e))
  one_end _ _ _ _ (one_edge_more l a path there) (one_edge_more m b other here) e =
      let same = same_from_push l m a.by b.by e in
      ap (λ (edge : Edge L). edge.to) (same_edge a b there here (one_end l m a.from b.from path other same.0) same.1)

  -- a path to the vertex whose last edge is one of these
  record Through (some : List (Edge L)) (vertex : ℕ) (labels : List L) : Type 0 where
    front : List L
    edge : Edge L
    path : Path edges front edge.from
    among : Contains some edge
    enters : edge.to ≡ vertex
    is : labels ≡ front ++ edge.by ∷ []

  -- these are all of them, each once; they are as many as the edges bring
  record AreThrough (counts : List ℕ) (some : List (Edge L)) (vertex : ℕ) (paths : List (List L)) : Type 0 where
    each : All (Through some vertex) paths
    all : (labels : List L) → Through some vertex labels → Contains paths labels
    once : AllPairs (λ a b. a ≢ b) paths
    number : min (length paths) COUNT_MOST ≡ min (sum_by (brought counts vertex) some) COUNT_MOST

  -- a path that goes through one of fewer edges
  more_through : (a : Edge L) (some : List (Edge L)) (vertex : ℕ) (labels : List L) → Through some vertex labels → Through (a ∷ some) vertex labels
  more_through a some vertex labels t = record { front = t.front; edge = t.edge; path = t.path; among = contains_tail a t.edge some t.among; enters = t.enters; is = t.is }

  -- what an edge brings that enters the vertex, and one that does not
  brought_yes : (counts : List ℕ) (vertex : ℕ) (a : Edge L) → (a.to == vertex) ≡ true → brought counts vertex a ≡ get_or counts a.from 0
  brought_yes counts vertex a e = ap (λ (b : Bool). if b then get_or counts a.from 0 else 0) e

  brought_no : (counts : List ℕ) (vertex : ℕ) (a : Edge L) → (a.to == vertex) ≡ false → brought counts vertex a ≡ 0
  brought_no counts vertex a e = ap (λ (b : Bool). if b then get_or counts a.from 0 else 0) e

  -- where an edge does not enter the vertex, the same paths go through one of the edges
  through_as_before : (counts : List ℕ) (vertex : ℕ) (a : Edge L) (some : List (Edge L)) (paths : List (List L)) → (a.to ≡ vertex → ⊥) → brought counts vertex a ≡ 0 → AreThrough counts some vertex paths → AreThrough counts (a ∷ some) vertex paths
  through_as_before counts vertex a some paths apart_from none t = record {
    each = All-weaker (Through some vertex) (Through (a ∷ some) vertex) (more_through a some vertex) paths t.each;
    all = λ labels h. elim (contains_cases a h.edge some h.among) [
      | inl e ↦ absurd (apart_from (ap (λ (edge : Edge L). edge.to) e ∙ h.enters))
      | inr there ↦ t.all labels (record { front = h.front; edge = h.edge; path = h.path; among = there; enters = h.enters; is = h.is })
    ];
    once = t.once;
    number = (let sum : sum_by (brought counts vertex) (a ∷ some) ≡ brought counts vertex a + sum_by (brought counts vertex) some = sum_by-cons (brought counts vertex) a some in
        let same : sum_by (brought counts vertex) (a ∷ some) ≡ sum_by (brought counts vertex) some = omega (arith, sum, none) in
        t.number ∙ ap (λ (n : ℕ). min n COUNT_MOST) (sym same));
  }

  push_injective : (x : L) (l m : List L) → l ++ x ∷ [] ≡ m ++ x ∷ [] → l ≡ m
  push_injective x l m e = (same_from_push l m x x e).0

  -- where an edge enters the vertex, each path to the vertex that it leaves goes on by it
  through_one_more : (counts : List ℕ) (vertex : ℕ) (a : Edge L) (some : List (Edge L)) (paths others : List (List L)) → Contains edges a → All (Contains edges) some → All (λ b. a.from ≡ b.from → a.by ≡ b.by → ⊥) some → a.to ≡ vertex
      → brought counts vertex a ≡ min (length paths) COUNT_MOST → AreAllPaths edges a.from paths → AreThrough counts some vertex others → AreThrough counts (a ∷ some) vertex (map (λ l. l ++ a.by ∷ []) paths ++ others)
  through_one_more counts vertex a some paths others here there differ enters brings p t = record {
    each = All-append (Through (a ∷ some) vertex) (map (λ l. l ++ a.by ∷ []) paths) others
        (All-map (Through (a ∷ some) vertex) (λ l. l ++ a.by ∷ []) paths (All-weaker (λ l. Path edges l a.from) (λ l. Through (a ∷ some) vertex (l ++ a.by ∷ []))
        (λ l path. record { front = l; edge = a; path = path; among = contains_head a some; enters = enters; is = refl }) paths p.each))
        (All-weaker (Through some vertex) (Through (a ∷ some) vertex) (more_through a some vertex) others t.each);
    all = λ labels h. elim (contains_cases a h.edge some h.among) [
      | inl e ↦ Contains-append_left (map (λ l. l ++ a.by ∷ []) paths) others labels
          (subst (Contains (map (λ l. l ++ a.by ∷ []) paths)) (sym (h.is ∙ ap (λ (edge : Edge L). h.front ++ edge.by ∷ []) (sym e)))
          (contains_map (λ l. l ++ a.by ∷ []) h.front paths (p.all h.front (subst (λ (edge : Edge L). Path edges h.front edge.from) (sym e) h.path))))
      | inr among ↦ Contains-append_right (map (λ l. l ++ a.by ∷ []) paths) others labels
          (t.all labels (record { front = h.front; edge = h.edge; path = h.path; among = among; enters = h.enters; is = h.is }))
    ];
    once = pairs_append (λ l m. l ≢ m) (map (λ l. l ++ a.by ∷ []) paths) others (pairs_map (λ l. l ++ a.by ∷ []) (push_injective a.by) paths p.once) t.once
        (λ l m in_first in_others. apart_paths l m (made l in_first) (All-contains (Through some vertex) others m t.each in_others));
    number = (let sum : sum_by (brought counts vertex) (a ∷ some) ≡ brought counts vertex a + sum_by (brought counts vertex) some = sum_by-cons (brought counts vertex) a some in
        let long : length (map (λ l. l ++ a.by ∷ []) paths ++ others) ≡ length (map (λ l. l ++ a.by ∷ []) paths) + length others = length-append (map (λ l. l ++ a.by ∷ []) paths) others in
        let mapped : length (map (λ l. l ++ a.by ∷ []) paths) ≡ length paths = length-map paths (λ l. l ++ a.by ∷ []) in
        let rest = t.number in
        omega (arith, sum, long, mapped, rest, brings));
  }
    where
      Made : List L → Type 0
      Made l = (m : List L) × Path edges m a.from × (l ≡ m ++ a.by ∷ [])

      made : (l : List L) → Contains (map (λ k. k ++ a.by ∷ []) paths) l → Made l
      made l h = All-contains Made (map (λ k. k ++ a.by ∷ []) paths) l (All-map Made (λ k. k ++ a.by ∷ []) paths (All-weaker (λ k. Path edges k a.from) (λ k. Made (k ++ a.by ∷ [])) (λ k path. (k, path, refl)) paths p.each)) h

      apart_paths : (l m : List L) → Made l → Through some vertex m → l ≢ m
      apart_paths l m by h e =
          let same = same_from_push by.0 h.front a.by h.edge.by (sym by.2 ∙ e ∙ h.is) in
          let from : a.from ≡ h.edge.from = one_end by.0 h.front a.from h.edge.from by.1 h.path same.0 in
          All-contains (λ b. a.from ≡ b.from → a.by ≡ b.by → ⊥) some h.edge differ h.among from same.1

  -- all paths to the vertex whose last edge is one of these, where those to the vertices that they leave are known
  through : (counts : List ℕ) (vertex : ℕ) (some : List (Edge L)) → All (Contains edges) some → AreApart some → ((a : Edge L) → Contains some a → a.to ≡ vertex → IsCount edges a.from (get_or counts a.from 0)) → (paths : List (List L)) × AreThrough counts some vertex paths
  through counts vertex [] there pairs known = (
    [],
    record {
      each = All-nil (Through [] vertex);
      all = λ labels h. absurd (let low = h.among.1 in let bad : ⊥ = omega (arith, low) in bad);
      once = pairs_none (λ l m. l ≢ m);
      number = refl;
    },
  )
  through counts vertex (a ∷ some) there pairs known =
      let rest = through counts vertex some (λ k d low. there (suc k) d (omega (arith, low))) (pairs_tail (λ x y. x.from ≡ y.from → x.by ≡ y.by → ⊥) a some pairs) (λ b among enters. known b (contains_tail a b some among) enters) in
      by_test (a.to == vertex) refl rest.0 rest.1
    where
      here : Contains edges a
      here = there zero a (omega arith)

      by_test : (b : Bool) → (a.to == vertex) ≡ b → (paths : List (List L)) → AreThrough counts some vertex paths → (all : List (List L)) × AreThrough counts (a ∷ some) vertex all
      by_test false e paths t = (paths, through_as_before counts vertex a some paths (eqb-false a.to vertex e) (brought_no counts vertex a e) t)
      by_test true e paths t =
          let enters : a.to ≡ vertex = eqb-true a.to vertex e in
          let k = known a (contains_head a some) enters in (
            map (λ l. l ++ a.by ∷ []) k.paths ++ paths,
            through_one_more counts vertex a some k.paths paths here (λ n d low. there (suc n) d (omega (arith, low)))
                (all_by (λ b. a.from ≡ b.from → a.by ≡ b.by → ⊥) some (λ b among. pairs_head (λ x y. x.from ≡ y.from → x.by ≡ y.by → ⊥) a b some pairs among)) enters (brought_yes counts vertex a e ∙ k.is) k.all t,
          )

  -- a path has no edge, or a last one
  last : (labels : List L) (vertex : ℕ) → Path edges labels vertex → ((labels ≡ []) × (vertex ≡ 0)) ⊎ Through edges vertex labels
  last _ _ no_edge = inl (refl, refl)
  last _ _ (one_edge_more front edge path there) = inr (record { front = front; edge = edge; path = path; among = there; enters = refl; is = refl })

  path_of : (labels : List L) (vertex : ℕ) → Through edges vertex labels → Path edges labels vertex
  path_of labels vertex t = subst (λ (l : List L). Path edges l vertex) (sym t.is) (subst (λ (v : ℕ). Path edges (t.front ++ t.edge.by ∷ []) v) t.enters (one_edge_more t.front t.edge t.path t.among))

  -- all paths to a vertex are those that go through an edge, and for vertex 0 that of no edge
  all_to : (counts : List ℕ) (vertex : ℕ) (paths : List (List L)) → AreThrough counts edges vertex paths → (all : List (List L)) × AreAllPaths edges vertex all × (min (length all) COUNT_MOST ≡ sum_at edges counts vertex)
  all_to counts zero paths t = (
    [] ∷ paths,
    record {
      each = all_by (λ l. Path edges l 0) ([] ∷ paths) (λ l there. elim (contains_cases [] l paths there) [
        | inl e ↦ subst (λ (m : List L). Path edges m 0) e no_edge
        | inr h ↦ path_of l 0 (All-contains (Through edges 0) paths l t.each h)
      ]);
      all = λ l path. elim (last l 0 path) [
        | inl h ↦ subst (Contains ([] ∷ paths)) (sym h.0) (contains_head [] paths)
        | inr h ↦ contains_tail [] l paths (t.all l h)
      ];
      once = AllPairs-cons (λ l m. l ≢ m) [] paths (all_by (λ m. [] ≢ m) paths (λ m there e. (let h = All-contains (Through edges 0) paths m t.each there in no_push h.front h.edge.by (e ∙ h.is)))) t.once;
    },
    (let number = t.number in omega (arith, number)),
  )
  all_to counts (suc vertex) paths t = (
    paths,
    record {
      each = All-weaker (Through edges (suc vertex)) (λ l. Path edges l (suc vertex)) (λ l h. path_of l (suc vertex) h) paths t.each;
      all = λ l path. elim (last l (suc vertex) path) [
        | inl h ↦ absurd (let e = h.1 in let bad : ⊥ = omega (arith, e) in bad)
        | inr h ↦ t.all l h
      ];
      once = t.once;
    },
    (let number = t.number in omega (arith, number)),
  )

  -- of each vertex below a rank the number is that of its paths
  counted_below : (ranks counts : List ℕ) → All (LeadsUp ranks) edges → length ranks ≡ length counts → AreSums edges counts counts → (rank vertex : ℕ) → get_or ranks vertex 0 < rank → vertex < length counts → IsCount edges vertex (get_or counts vertex 0)
  counted_below ranks counts up same sums zero vertex low there = absurd (let bad : ⊥ = omega (arith, low) in bad)
  counted_below ranks counts up same sums (suc rank) vertex low there =
      let some = through counts vertex edges (all_by (Contains edges) edges (λ a h. h)) apart (λ a among enters. (
      let leads = All-contains (LeadsUp ranks) edges a up among in
      let rises : get_or ranks a.from 0 < get_or ranks vertex 0 = subst (λ (v : ℕ). get_or ranks a.from 0 < get_or ranks v 0) enters leads.up in
      let inside = leads.from in
      counted_below ranks counts up same sums rank a.from (omega (arith, rises, low)) (omega (arith, inside, same)))) in
      let all = all_to counts vertex some.0 some.1 in
      record { paths = all.0; all = all.1; is = sums.each vertex there ∙ sym all.2 }

pub counted : {L : Type 0} (edges : List (Edge L)) (ranks counts : List ℕ) → AreApart edges → All (LeadsUp ranks) edges → length ranks ≡ length counts → AreSums edges counts counts → AreCounts edges counts
counted edges ranks counts apart up same sums = λ vertex there. counted_below edges apart ranks counts up same sums (get_or ranks vertex 0 + 1) vertex (omega arith) there

-- one edge more brings its paths to the vertex that it enters
pub sums_more : {L : Type 0} (edges : List (Edge L)) (counts sums : List ℕ) (i : ℕ) (a : Edge L) (sum : ℕ) → i < length edges → a ≡ get_or edges i a → a.to < length counts
    → sum ≡ min (get_or sums a.to 0 + get_or counts a.from 0) COUNT_MOST → AreSums (take i edges) counts sums → AreSums (take (i + 1) edges) counts (set sums a.to sum)
sums_more edges counts sums i a sum low is enters saturates h = record {
  count = length-set sums a.to sum ∙ h.count;
  each = λ vertex there. (
      let more : sum_by (brought counts vertex) (take (i + 1) edges) ≡ sum_by (brought counts vertex) (take i edges) + brought counts vertex (get_or edges i a) = sum_by_more (brought counts vertex) edges i a low in
      let one : brought counts vertex (get_or edges i a) ≡ brought counts vertex a = ap (brought counts vertex) (sym is) in
      let before = h.each vertex there in
      elim (cases_eq a.to vertex) [
        | inl e ↦ (
            let at : get_or (set sums a.to sum) vertex 0 ≡ sum = get_or-set_at sums a.to vertex sum 0 (sym e) (let long = h.count in omega (arith, enters, long)) in
            let brings : brought counts vertex a ≡ get_or counts a.from 0 = ap (λ (b : Bool). if b then get_or counts a.from 0 else 0) (eq-eqb a.to vertex e) in
            let old : get_or sums a.to 0 ≡ get_or sums vertex 0 = ap (λ (n : ℕ). get_or sums n 0) e in
            omega (arith, at, brings, old, more, one, before, saturates))
        | inr differs ↦ (
            let at : get_or (set sums a.to sum) vertex 0 ≡ get_or sums vertex 0 = get_or-set_other sums a.to vertex sum 0 (λ e. differs (sym e)) in
            let brings : brought counts vertex a ≡ 0 = ap (λ (b : Bool). if b then get_or counts a.from 0 else 0) (ne_eqb a.to vertex differs) in
            omega (arith, at, brings, more, one, before))
      ]);
}

-- lists of numbers that are the same place by place
pub same_numbers : (xs ys : List ℕ) → pointwise eqb xs ys ≡ true → xs ≡ ys
same_numbers [] [] e = refl
same_numbers [] (y ∷ ys) e = absurd (true≢false (sym e))
same_numbers (x ∷ xs) [] e = absurd (true≢false (sym e))
same_numbers (x ∷ xs) (y ∷ ys) e =
    let parts = and_parts (eqb x y) (pointwise eqb xs ys) e in
    let first : x ≡ y = eqb-true x y parts.0 in
    let rest : xs ≡ ys = same_numbers xs ys parts.1 in
    cc
