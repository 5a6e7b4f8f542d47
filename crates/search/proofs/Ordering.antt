-- What each turn of the search for an order keeps.
use Rattle.std.proofs.Common.{◌≡◌, ℕ, zero, suc, ◌+◌, ◌<◌, ◌≤◌, Bool, true, false, eqb, ◌⊎◌, List, [], ◌∷◌, ◌++◌, length, get_or, set, drop, replicate, Some, None, MatchBool, sym, refl, ap, ◌∙◌, subst, inl, inr, add-one, arith, length-set}
use Rattle.std.proofs.lemmas.List.{get_or_append_left, get_or-set_same, get_or-set_other, get_or_past, length_push, get_or-replicate, length-replicate}
use Rattle.std.proofs.lemmas.Bool.{cases_eq, cases_lt, cases_Bool, cond_both, false≢true, MatchBool-at_true, MatchBool-at_false}
use Rattle.lists.specs.Rows.{top, rest}
use Rattle.lists.specs.Many.{row}
use Rattle.lists.proofs.Many.{top_some, top_none}
use Rattle.model.specs.declared.numbers.LinkNo.{LinkNo}
use Rattle.model.specs.declared.numbers.StepNo.{StepNo}
use Rattle.model.specs.Meaning.{tail_of, head_of, EndsBelow}
use Rattle.search.specs.Joined.{add}
use Rattle.model.specs.Walks.{Walks}
use Rattle.search.specs.Searched.{link_at, leaving, InOrder, Searched}
use Rattle.search.proofs.Places.{In, in_push, push_keeps, push_has, push_each}
use Rattle.search.proofs.Rowing.{row_both, row_cases, in_add, add_keeps, add_has, Table, table_add}

abbrev link : ℕ → LinkNo
link k = record { 0 = k }

abbrev step : ℕ → StepNo
step v = record { 0 = v }

abbrev pub Distinct : List LinkNo → Type 0
Distinct [] = Unit {0}
Distinct (x ∷ xs) = (In x xs → ⊥) × Distinct xs

abbrev has : List Bool → ℕ → Bool
has fs v = get_or fs v false

-- os: the order so far; fs: what is reached; qs: the steps that wait for their turn; t: the links of each step that are still to come
pub record Inv (G : List (ℕ × ℕ)) (n start : ℕ) (os : List LinkNo) (fs : List Bool) (qs : List StepNo) (t : List (List LinkNo)) : Type 0 where
  pub wide : length t ≡ n
  pub long : length fs ≡ n
  pub starts : has fs start ≡ true
  pub waits : (v : ℕ) → has fs v ≡ true → In (step v) qs ⊎ (row t v ≡ [])
  pub marked : (s : StepNo) → In s qs → has fs s.0 ≡ true
  pub rowed : (v : ℕ) (l : LinkNo) → In l (row t v) → (l.0 < length G) × (tail_of G l.0 ≡ v)
  pub distinct : (v : ℕ) → Distinct (row t v)
  pub fresh : (v : ℕ) (l : LinkNo) → In l (row t v) → In l os → ⊥
  pub whole : (k : ℕ) → k < length G → In (link k) (row t (tail_of G k)) ⊎ In (link k) os
  pub ends : (l : LinkNo) → In l os → (has fs (tail_of G l.0) ≡ true) × (has fs (head_of G l.0) ≡ true)
  pub in_order : InOrder G start os
  pub origin : (v : ℕ) → has fs v ≡ true → (v ≡ start) ⊎ ((l : LinkNo) × In l os × (head_of G l.0 ≡ v))

-- the step h is reached: it waits, unless it was reached before
pub record Grows (fs : List Bool) (qs : List StepNo) (fs' : List Bool) (qs' : List StepNo) (h : ℕ) : Type 0 where
  pub same : length fs' ≡ length fs
  pub keeps : (v : ℕ) → has fs v ≡ true → has fs' v ≡ true
  pub gets : has fs' h ≡ true
  pub only : (v : ℕ) → has fs' v ≡ true → (v ≡ h) ⊎ (has fs v ≡ true)
  pub by_one : length qs' ≤ length qs + 1
  pub stays : (s : StepNo) → In s qs → In s qs'
  pub joins : (has fs h ≡ true) ⊎ In (step h) qs'
  pub more : (s : StepNo) → In s qs' → In s qs ⊎ (s.0 ≡ h)

-- places of a list of links
in_at : (l : LinkNo) (os : List LinkNo) → In l os → (i : ℕ) × (i < length os) × (link_at os i ≡ l.0)
in_at l (x ∷ xs) (inl e) = (0, omega arith, ap (λ (y : LinkNo). y.0) (sym e))
in_at l (x ∷ xs) (inr h) = let p = in_at l xs h in (suc p.0, omega arith, p.2)
in_at l [] h = absurd h

at_in : (os : List LinkNo) (i : ℕ) → i < length os → In (link (link_at os i)) os
at_in [] i lt = absurd (omega arith)
at_in (x ∷ xs) zero lt = inl refl
at_in (x ∷ xs) (suc i) lt = inr (at_in xs i (omega arith))

-- the tail of link k is the start, or the head of one of the links at the first i places
abbrev Before : List (ℕ × ℕ) → ℕ → List LinkNo → ℕ → ℕ → Type 0
Before G start os i k = (tail_of G k ≡ start) ⊎ ((j : ℕ) × (j < i) × (head_of G (link_at os j) ≡ tail_of G k))

-- an order with one link more
order_push : (G : List (ℕ × ℕ)) (start : ℕ) (os : List LinkNo) (x : LinkNo) → x.0 < length G → (In x os → ⊥) → Before G start os (length os) x.0 → InOrder G start os → InOrder G start (os ++ x ∷ [])
order_push G start os x lt new from o = record { below = below'; earlier = earlier'; once = once' }
  where
    below' : (i : ℕ) → i < length (os ++ x ∷ []) → link_at (os ++ x ∷ []) i < length G
    below' = push_each os x (link 0) (λ i y. y.0 < length G) o.below lt

    was : (i k : ℕ) → i ≤ length os → Before G start os i k → Before G start (os ++ x ∷ []) i k
    was i k le (inl e) = inl e
    was i k le (inr q) =
        let lj = q.1 in
        inr (q.0, q.1, ap (λ (y : LinkNo). head_of G y.0) (get_or_append_left os (x ∷ []) (link 0) q.0 (omega arith)) ∙ q.2)

    earlier' : (i : ℕ) → i < length (os ++ x ∷ []) → Before G start (os ++ x ∷ []) i (link_at (os ++ x ∷ []) i)
    earlier' =
        push_each os x (link 0) (λ i y. Before G start (os ++ x ∷ []) i y.0)
        (λ i p. was i (link_at os i) (omega arith) (o.earlier i p)) (was (length os) x.0 (omega arith) from)

    other : (i : ℕ) → i < length os → link_at os i ≡ x.0 → ⊥
    other i p e = new (subst (λ (k : ℕ). In (link k) os) e (at_in os i p))

    once' : (i j : ℕ) → i < length (os ++ x ∷ []) → j < length (os ++ x ∷ []) → link_at (os ++ x ∷ []) i ≡ link_at (os ++ x ∷ []) j → i ≡ j
    once' i j li lj =
        push_each os x (link 0) (λ i y. y.0 ≡ link_at (os ++ x ∷ []) j → i ≡ j)
        (λ i p. push_each os x (link 0) (λ j z. link_at os i ≡ z.0 → i ≡ j) (λ j q. o.once i j p q) (λ e. absurd (other i p e)) j lj)
        (push_each os x (link 0) (λ j z. x.0 ≡ z.0 → length os ≡ j) (λ j q e. absurd (other j q (sym e))) (λ e. refl) j lj) i li

has_in : (fs : List Bool) (v : ℕ) → has fs v ≡ true → v < length fs
has_in fs v h = pick (cases_lt v (length fs))
  where
    pick : (v < length fs) ⊎ (length fs ≤ v) → v < length fs
    pick (inl p) = p
    pick (inr p) = absurd (false≢true (sym (get_or_past fs v false p) ∙ h))

-- s stands in front of the queue
front_is : (qs : List StepNo) (s : StepNo) → 0 < length qs → s ≡ get_or qs 0 s → qs ≡ s ∷ drop 1 qs
front_is [] s lt e = absurd (omega arith)
front_is (q ∷ qs) s lt e = ap (λ (y : StepNo). y ∷ qs) (sym e)

module _ (G : List (ℕ × ℕ)) (n start : ℕ) (os : List LinkNo) (fs : List Bool) (qs : List StepNo) (t : List (List LinkNo)) (s : StepNo) (some : 0 < length qs) (front : s ≡ get_or qs 0 s) (i : Inv G n start os fs qs t) where
  q : qs ≡ s ∷ drop 1 qs
  q = front_is qs s some front

  front_marked : has fs s.0 ≡ true
  front_marked = i.marked s (subst (λ (ys : List StepNo). In s ys) (sym q) (inl refl))

  -- the step in front is one of those that there are
  pub front_in : s.0 < n
  front_in = let p = has_in fs s.0 front_marked in omega (arith, i.long)

  -- nothing is left at it: it leaves the queue
  pub turn_next : None ≡ top (row t s.0) → Inv G n start os fs (drop 1 qs) t
  turn_next e =
      record { wide = i.wide; long = i.long; starts = i.starts; waits = waits'; marked = λ v m. i.marked v (subst (λ (ys : List StepNo). In v ys) (sym q) (inr m)); rowed = i.rowed; distinct = i.distinct; fresh = i.fresh; whole = i.whole; ends = i.ends; in_order = i.in_order; origin = i.origin }
    where
      waits' : (v : ℕ) → has fs v ≡ true → In (step v) (drop 1 qs) ⊎ (row t v ≡ [])
      waits' v h = pick (i.waits v h)
        where
          split : In (step v) (s ∷ drop 1 qs) → In (step v) (drop 1 qs) ⊎ (row t v ≡ [])
          split (inl d) = inr (ap (λ (y : StepNo). row t y.0) d ∙ top_none (row t s.0) e)
          split (inr m) = inl m

          pick : In (step v) qs ⊎ (row t v ≡ []) → In (step v) (drop 1 qs) ⊎ (row t v ≡ [])
          pick (inl m) = split (subst (λ (ys : List StepNo). In (step v) ys) q m)
          pick (inr z) = inr z

  module _ (x : LinkNo) (e : Some x ≡ top (row t s.0)) where
    is : row t s.0 ≡ x ∷ rest (row t s.0)
    is = top_some x (row t s.0) e

    taken : In x (row t s.0)
    taken = subst (λ (ys : List LinkNo). In x ys) (sym is) (inl refl)

    -- the link that is taken is one of those that there are, and leaves the step in front
    pub link_in : (x.0 < length G) × (tail_of G x.0 ≡ s.0)
    link_in = i.rowed s.0 x taken

    here : has fs s.0 ≡ true
    here = front_marked

    lt : s.0 < length t
    lt = let p = front_in in omega (arith, i.wide)

    from : Before G start os (length os) x.0
    from = pick (i.origin s.0 here)
      where
        pick : (s.0 ≡ start) ⊎ ((l : LinkNo) × In l os × (head_of G l.0 ≡ s.0)) → Before G start os (length os) x.0
        pick (inl d) = inl (link_in.1 ∙ d)
        pick (inr d) =
            let a = in_at d.0 os d.1 in
            inr (a.0, a.1, ap (λ (k : ℕ). head_of G k) a.2 ∙ d.2 ∙ sym link_in.1)

    -- the links that are still to come once x is taken
    abbrev left : List (List LinkNo)
    left = set t s.0 (rest (row t s.0))

    apart : (In x (rest (row t s.0)) → ⊥) × Distinct (rest (row t s.0))
    apart = subst Distinct is (i.distinct s.0)

    old : (v : ℕ) (l : LinkNo) → In l (row left v) → In l (row t v)
    old v l =
        row_both t s.0 (rest (row t s.0)) v lt (λ ys. In l ys → In l (row t v))
        (λ d h. subst (λ (ys : List LinkNo). In l ys) (sym (ap (λ (k : ℕ). row t k) d ∙ is)) (inr h)) (λ d h. h)

    other : (v : ℕ) (l : LinkNo) → In l (row left v) → l ≡ x → ⊥
    other v l =
        row_both t s.0 (rest (row t s.0)) v lt (λ ys. In l ys → l ≡ x → ⊥)
        (λ d h a. apart.0 (subst (λ (y : LinkNo). In y (rest (row t s.0))) a h))
        (λ d h a. d (sym (i.rowed v l h).1 ∙ ap (λ (y : LinkNo). tail_of G y.0) a ∙ link_in.1))

    still_empty : (v : ℕ) → row t v ≡ [] → row left v ≡ []
    still_empty v z =
        row_both t s.0 (rest (row t s.0)) v lt (λ ys. ys ≡ [])
        (λ d. ap rest (sym (ap (λ (k : ℕ). row t k) d) ∙ z)) (λ d. z)

    whole' : (k : ℕ) → k < length G → In (link k) (row left (tail_of G k)) ⊎ In (link k) (os ++ x ∷ [])
    whole' k lk = pick (i.whole k lk)
      where
        split : In (link k) (x ∷ rest (row t s.0)) → In (link k) (rest (row t s.0)) ⊎ In (link k) (os ++ x ∷ [])
        split (inl d) = inr (subst (λ (y : LinkNo). In y (os ++ x ∷ [])) (sym d) (push_has os x))
        split (inr d) = inl d

        pick : In (link k) (row t (tail_of G k)) ⊎ In (link k) os → In (link k) (row left (tail_of G k)) ⊎ In (link k) (os ++ x ∷ [])
        pick (inr m) = inr (push_keeps (link k) os x m)
        pick (inl m) =
            row_both t s.0 (rest (row t s.0)) (tail_of G k) lt (λ ys. In (link k) ys ⊎ In (link k) (os ++ x ∷ []))
            (λ d. split (subst (λ (ys : List LinkNo). In (link k) ys) (ap (λ (j : ℕ). row t j) d ∙ is) m)) (λ d. inl m)

    -- x goes into the order, and its head is reached
    pub turn_take : (fs' : List Bool) (qs' : List StepNo) → Grows fs qs fs' qs' (head_of G x.0) → Inv G n start (os ++ x ∷ []) fs' qs' left
    turn_take fs' qs' g =
        record { wide = length-set t s.0 (rest (row t s.0)) ∙ i.wide; long = g.same ∙ i.long; starts = g.keeps start i.starts; waits = waits'; marked = marked'; rowed = λ v l h. i.rowed v l (old v l h); distinct = λ v. row_both t s.0 (rest (row t s.0)) v lt Distinct (λ d. apart.1) (λ d. i.distinct v); fresh = fresh'; whole = whole'; ends = ends'; in_order = order_push G start os x link_in.0 (i.fresh s.0 x taken) from i.in_order; origin = origin' }
      where
        waits' : (v : ℕ) → has fs' v ≡ true → In (step v) qs' ⊎ (row left v ≡ [])
        waits' v h = pick (g.only v h) g.joins
          where
            keep : In (step v) qs ⊎ (row t v ≡ []) → In (step v) qs' ⊎ (row left v ≡ [])
            keep (inl m) = inl (g.stays (step v) m)
            keep (inr z) = inr (still_empty v z)

            pick : (v ≡ head_of G x.0) ⊎ (has fs v ≡ true) → (has fs (head_of G x.0) ≡ true) ⊎ In (step (head_of G x.0)) qs' → In (step v) qs' ⊎ (row left v ≡ [])
            pick (inr p) j = keep (i.waits v p)
            pick (inl d) (inl p) = keep (i.waits v (ap (λ (k : ℕ). has fs k) d ∙ p))
            pick (inl d) (inr m) = inl (subst (λ (k : ℕ). In (step k) qs') (sym d) m)

        marked' : (v : StepNo) → In v qs' → has fs' v.0 ≡ true
        marked' v m = pick (g.more v m)
          where
            pick : In v qs ⊎ (v.0 ≡ head_of G x.0) → has fs' v.0 ≡ true
            pick (inl p) = g.keeps v.0 (i.marked v p)
            pick (inr d) = ap (λ (k : ℕ). has fs' k) d ∙ g.gets

        fresh' : (v : ℕ) (l : LinkNo) → In l (row left v) → In l (os ++ x ∷ []) → ⊥
        fresh' v l h m = pick (in_push l os x m)
          where
            pick : In l os ⊎ (l ≡ x) → ⊥
            pick (inl p) = i.fresh v l (old v l h) p
            pick (inr p) = other v l h p

        ends' : (l : LinkNo) → In l (os ++ x ∷ []) → (has fs' (tail_of G l.0) ≡ true) × (has fs' (head_of G l.0) ≡ true)
        ends' l m = pick (in_push l os x m)
          where
            pick : In l os ⊎ (l ≡ x) → (has fs' (tail_of G l.0) ≡ true) × (has fs' (head_of G l.0) ≡ true)
            pick (inl p) = let a = i.ends l p in (g.keeps (tail_of G l.0) a.0, g.keeps (head_of G l.0) a.1)
            pick (inr p) =
                subst (λ (y : LinkNo). (has fs' (tail_of G y.0) ≡ true) × (has fs' (head_of G y.0) ≡ true)) (sym p)
                (ap (λ (k : ℕ). has fs' k) link_in.1 ∙ g.keeps s.0 here, g.gets)

        origin' : (v : ℕ) → has fs' v ≡ true → (v ≡ start) ⊎ ((l : LinkNo) × In l (os ++ x ∷ []) × (head_of G l.0 ≡ v))
        origin' v h = pick (g.only v h)
          where
            was : (v ≡ start) ⊎ ((l : LinkNo) × In l os × (head_of G l.0 ≡ v)) → (v ≡ start) ⊎ ((l : LinkNo) × In l (os ++ x ∷ []) × (head_of G l.0 ≡ v))
            was (inl d) = inl d
            was (inr p) = inr (p.0, push_keeps p.0 os x p.1, p.2)

            pick : (v ≡ head_of G x.0) ⊎ (has fs v ≡ true) → (v ≡ start) ⊎ ((l : LinkNo) × In l (os ++ x ∷ []) × (head_of G l.0 ≡ v))
            pick (inl d) = inr (x, push_has os x, sym d)
            pick (inr p) = was (i.origin v p)

-- what the call that reaches a step says
pub grows : (fs fs' : List Bool) (qs qs' : List StepNo) (h : StepNo) → h.0 < length fs → MatchBool (has fs h.0) ((fs' ≡ fs) × (qs' ≡ qs)) ((fs' ≡ set fs h.0 true) × (qs' ≡ qs ++ h ∷ [])) → Grows fs qs fs' qs' h.0
grows fs fs' qs qs' h lt w = pick (cases_Bool (has fs h.0))
  where
    stay : has fs h.0 ≡ true → Grows fs qs fs qs h.0
    stay p =
        record { same = refl; keeps = λ v r. r; gets = p; only = λ v r. inr r; by_one = omega arith; stays = λ s m. m; joins = inl p; more = λ s m. inl m }

    reach : Grows fs qs (set fs h.0 true) (qs ++ h ∷ []) h.0
    reach =
        record {
          same = length-set fs h.0 true;
          keeps = keeps';
          gets = get_or-set_same fs h.0 true false lt;
          only = only';
          by_one = omega (arith, length_push qs h);
          stays = λ s m. push_keeps s qs h m;
          joins = inr (push_has qs h);
          more = more';
        }
      where
        keeps' : (v : ℕ) → has fs v ≡ true → has (set fs h.0 true) v ≡ true
        keeps' v r = go (cases_eq v h.0)
          where
            go : (v ≡ h.0) ⊎ (v ≡ h.0 → ⊥) → has (set fs h.0 true) v ≡ true
            go (inl e) = ap (λ (k : ℕ). has (set fs h.0 true) k) e ∙ get_or-set_same fs h.0 true false lt
            go (inr e) = get_or-set_other fs h.0 v true false e ∙ r

        only' : (v : ℕ) → has (set fs h.0 true) v ≡ true → (v ≡ h.0) ⊎ (has fs v ≡ true)
        only' v r = go (cases_eq v h.0)
          where
            go : (v ≡ h.0) ⊎ (v ≡ h.0 → ⊥) → (v ≡ h.0) ⊎ (has fs v ≡ true)
            go (inl e) = inl e
            go (inr e) = inr (sym (get_or-set_other fs h.0 v true false e) ∙ r)

        more' : (s : StepNo) → In s (qs ++ h ∷ []) → In s qs ⊎ (s.0 ≡ h.0)
        more' s m = go (in_push s qs h m)
          where
            go : In s qs ⊎ (s ≡ h) → In s qs ⊎ (s.0 ≡ h.0)
            go (inl p) = inl p
            go (inr p) = inr (ap (λ (y : StepNo). y.0) p)

    pick : (has fs h.0 ≡ true) ⊎ (has fs h.0 ≡ false) → Grows fs qs fs' qs' h.0
    pick (inl p) = let e = MatchBool-at_true _ _ p w in rw (e.0, e.1) (stay p)
    pick (inr p) = let e = MatchBool-at_false _ _ p w in rw (e.0, e.1) reach

-- the links that leave a step
leaving_in : (G : List (ℕ × ℕ)) (i v : ℕ) (l : LinkNo) → In l (leaving G i v) → (l.0 < i) × (tail_of G l.0 ≡ v)
leaving_in G zero v l h = absurd h
leaving_in G (suc i) v l h =
    pick (λ m. leaving_in G i v l m) (in_add (leaving G i) (tail_of G i) (link i) v l h)
  where
    pick : (In l (leaving G i v) → (l.0 < i) × (tail_of G l.0 ≡ v)) → ((v ≡ tail_of G i) × (l ≡ link i)) ⊎ In l (leaving G i v) → (l.0 < suc i) × (tail_of G l.0 ≡ v)
    pick f (inl p) =
        let e = ap (λ (y : LinkNo). y.0) p.1 in
        (omega arith, ap (λ (k : ℕ). tail_of G k) e ∙ sym p.0)
    pick f (inr m) = let p = f m in (omega arith, p.1)

leaving_distinct : (G : List (ℕ × ℕ)) (i v : ℕ) → Distinct (leaving G i v)
leaving_distinct G zero v = tt
leaving_distinct G (suc i) v =
    cond_both (eqb v (tail_of G i)) (link i ∷ leaving G i v) (leaving G i v) Distinct
    (λ q. (λ m. let p = (leaving_in G i v (link i) m).0 in omega arith, leaving_distinct G i v)) (λ q. leaving_distinct G i v)

leaving_whole : (G : List (ℕ × ℕ)) (i k : ℕ) → k < i → In (link k) (leaving G i (tail_of G k))
leaving_whole G zero k lt = absurd (omega arith)
leaving_whole G (suc i) k lt = pick (λ l. leaving_whole G i k l) (cases_eq k i)
  where
    pick : (k < i → In (link k) (leaving G i (tail_of G k))) → (k ≡ i) ⊎ (k ≡ i → ⊥) → In (link k) (leaving G (suc i) (tail_of G k))
    pick f (inl e) =
        subst (λ (j : ℕ). In (link j) (leaving G (suc i) (tail_of G j))) (sym e) (add_has (leaving G i) (tail_of G i) (link i) (tail_of G i) refl)
    pick f (inr e) = add_keeps (leaving G i) (tail_of G i) (link i) (tail_of G k) (link k) (f (omega arith))

-- the first turn
module _ (G : List (ℕ × ℕ)) (n : ℕ) (start : StepNo) (os : List LinkNo) (fs : List Bool) (qs : List StepNo) (t : List (List LinkNo)) (lt : start.0 < n) (below : EndsBelow n G) (eo : os ≡ []) (ef : fs ≡ set (replicate n false) start.0 true) (eq : qs ≡ start ∷ []) (r : Table n (leaving G (length G)) t) where
  wide : length (replicate n false) ≡ n
  wide = length-replicate n false

  starts : has fs start.0 ≡ true
  starts =
      ap (λ (ys : List Bool). has ys start.0) ef ∙ get_or-set_same (replicate n false) start.0 true false (omega (arith, wide))

  blank : (v : ℕ) → has (replicate n false) v ≡ false
  blank v = go (cases_lt v n)
    where
      go : (v < n) ⊎ (n ≤ v) → has (replicate n false) v ≡ false
      go (inl p) = get_or-replicate n v false false p
      go (inr p) = get_or_past (replicate n false) v false (omega (arith, wide))

  only : (v : ℕ) → has fs v ≡ true → v ≡ start.0
  only v h = go (cases_eq v start.0)
    where
      go : (v ≡ start.0) ⊎ (v ≡ start.0 → ⊥) → v ≡ start.0
      go (inl e) = e
      go (inr e) =
          absurd (false≢true (sym (blank v) ∙ sym (get_or-set_other (replicate n false) start.0 v true false e) ∙ ap (λ (ys : List Bool). has ys v) (sym ef) ∙ h))

  marked : (s : StepNo) → In s qs → has fs s.0 ≡ true
  marked s m = go (subst (λ (ys : List StepNo). In s ys) eq m)
    where
      go : In s (start ∷ []) → has fs s.0 ≡ true
      go (inl e) = ap (λ (y : StepNo). has fs y.0) e ∙ starts
      go (inr h) = absurd h

  -- what holds of the links that leave a step, and of none, holds of the row
  each : (P : ℕ → List LinkNo → Type 0) → ((v : ℕ) → P v (leaving G (length G) v)) → ((v : ℕ) → P v []) → (v : ℕ) → P v (row t v)
  each P some none v = go (row_cases t (leaving G (length G)) v r.1)
    where
      go : (row t v ≡ leaving G (length G) v) ⊎ (row t v ≡ []) → P v (row t v)
      go (inl e) = subst (λ (ys : List LinkNo). P v ys) (sym e) (some v)
      go (inr e) = subst (λ (ys : List LinkNo). P v ys) (sym e) (none v)

  listed : (k : ℕ) → k < length G → In (link k) (row t (tail_of G k))
  listed k lk =
      subst (λ (ys : List LinkNo). In (link k) ys) (sym (r.1 (tail_of G k) (let b = (below k lk).0 in let long = r.0 in omega arith))) (leaving_whole G (length G) k lk)

  none : (l : LinkNo) → In l os → ⊥
  none l m = subst (λ (ys : List LinkNo). In l ys) eo m

  pub inv_start : Inv G n start.0 os fs qs t
  inv_start =
      record {
        wide = r.0;
        long = ap length ef ∙ length-set (replicate n false) start.0 true ∙ wide;
        starts = starts;
        waits = λ v h. inl (subst (λ (ys : List StepNo). In (step v) ys) (sym eq) (inl (ap step (only v h))));
        marked = marked;
        rowed = each (λ v ys. (l : LinkNo) → In l ys → (l.0 < length G) × (tail_of G l.0 ≡ v)) (λ v l h. leaving_in G (length G) v l h) (λ v l h. absurd h);
        distinct = each (λ v ys. Distinct ys) (λ v. leaving_distinct G (length G) v) (λ v. tt);
        fresh = λ v l h m. none l m;
        whole = λ k lk. inl (listed k lk);
        ends = λ l m. absurd (none l m);
        in_order = subst (λ (ys : List LinkNo). InOrder G start.0 ys) (sym eo) empty;
        origin = λ v h. inl (only v h);
      }
    where
      empty : InOrder G start.0 []
      empty = record { below = λ j l. absurd (omega arith); earlier = λ j l. absurd (omega arith); once = λ j k l m e. absurd (omega arith) }

-- walks
walks_more : (G : List (ℕ × ℕ)) (u : ℕ) (ks : List ℕ) (v k : ℕ) → k < length G → tail_of G k ≡ v → Walks G u ks v → Walks G u (ks ++ k ∷ []) (head_of G k)
walks_more G u [] v k lt e w = (lt, e ∙ sym w, refl)
walks_more G u (j ∷ ks) v k lt e w = (w.0, w.1, walks_more G (head_of G j) ks v k lt e w.2)

-- a walk of earlier links leads to each head
walk_back : (G : List (ℕ × ℕ)) (start : ℕ) (os : List LinkNo) → InOrder G start os → (f j : ℕ) → j < f → j < length os → (ks : List ℕ) × Walks G start ks (head_of G (link_at os j))
walk_back G start os o zero j lf lj = absurd (omega arith)
walk_back G start os o (suc f) j lf lj = pick (λ i li lo. walk_back G start os o f i li lo) (o.earlier j lj)
  where
    pick : ((i : ℕ) → i < f → i < length os → (ks : List ℕ) × Walks G start ks (head_of G (link_at os i))) → Before G start os j (link_at os j) → (ks : List ℕ) × Walks G start ks (head_of G (link_at os j))
    pick rec (inl e) = (link_at os j ∷ [], (o.below j lj, e, refl))
    pick rec (inr q) =
        let li = q.1 in
        let w = rec q.0 (omega arith) (omega arith) in
        (w.0 ++ link_at os j ∷ [], walks_more G start w.0 (head_of G (link_at os q.0)) (link_at os j) (o.below j lj) (sym q.2) w.1)

-- no step waits any more
pub inv_done : (G : List (ℕ × ℕ)) (n start : ℕ) (os : List LinkNo) (fs : List Bool) (qs : List StepNo) (t : List (List LinkNo)) → qs ≡ [] → Inv G n start os fs qs t → Searched G n start os fs
inv_done G n start os fs qs t eq i =
    record { long = i.long; in_order = i.in_order; whole = λ k lk h. in_at (link k) os (listed k lk h); only = λ j lj. (i.ends (link (link_at os j)) (at_in os j lj)).0; walked = walked'; complete = λ v ks w. along start ks v i.starts w }
  where
    listed : (k : ℕ) → k < length G → has fs (tail_of G k) ≡ true → In (link k) os
    listed k lk h = pick (i.whole k lk) (i.waits (tail_of G k) h)
      where
        pick : In (link k) (row t (tail_of G k)) ⊎ In (link k) os → In (step (tail_of G k)) qs ⊎ (row t (tail_of G k) ≡ []) → In (link k) os
        pick (inr m) w = m
        pick (inl m) (inl w) = absurd (subst (λ (ys : List StepNo). In (step (tail_of G k)) ys) eq w)
        pick (inl m) (inr z) = absurd (subst (λ (ys : List LinkNo). In (link k) ys) z m)

    walked' : (v : ℕ) → has fs v ≡ true → (ks : List ℕ) × Walks G start ks v
    walked' v h = pick (i.origin v h)
      where
        pick : (v ≡ start) ⊎ ((l : LinkNo) × In l os × (head_of G l.0 ≡ v)) → (ks : List ℕ) × Walks G start ks v
        pick (inl e) = ([], sym e)
        pick (inr q) =
            let a = in_at q.0 os q.1 in
            let w = walk_back G start os i.in_order (suc a.0) a.0 (omega arith) a.1 in
            (w.0, subst (λ (k : ℕ). Walks G start w.0 k) (ap (λ (k : ℕ). head_of G k) a.2 ∙ q.2) w.1)

    along : (u : ℕ) (ks : List ℕ) (v : ℕ) → has fs u ≡ true → Walks G u ks v → has fs v ≡ true
    along u [] v h w = ap (λ (k : ℕ). has fs k) (sym w) ∙ h
    along u (k ∷ ks) v h w =
        along (head_of G k) ks v (i.ends (link k) (listed k w.0 (ap (λ (j : ℕ). has fs j) w.1 ∙ h))).1 w.2

-- one more link, of which k is the tail
pub leaving_more : (n : ℕ) (G : List (ℕ × ℕ)) (t t' : List (List LinkNo)) (i k : ℕ) → tail_of G i ≡ k → k < n → t' ≡ set t k (link i ∷ row t k) → Table n (leaving G i) t → Table n (leaving G (i + 1)) t'
leaving_more n G t t' i k e lt more r =
    subst (λ (j : ℕ). Table n (leaving G j) t') (sym (add-one i))
    (subst (λ (j : ℕ). Table n (add (leaving G i) j (link i)) t') (sym e) (table_add n (leaving G i) t t' k (link i) lt more r))
