-- Walks put together and taken apart.
use Rattle.std.proofs.Common.{◌≡◌, ℕ, ◌<◌, ◌≢◌, ◌⊎◌, List, [], ◌∷◌, ◌++◌, length, sym, refl, ap, ◌∙◌, subst, inl, inr, arith}
use Rattle.std.proofs.lemmas.Bool.{cases_eq}
use Rattle.model.specs.Meaning.{Graph, tail_of, head_of, EndsBelow}
use Rattle.model.specs.Walks.{Links, Walks, Passes, Leads}

-- passing, as a fact on each link
abbrev pub Avoids : ℕ → List ℕ → Type 0
Avoids a [] = Unit {0}
Avoids a (k ∷ ks) = (k ≢ a) × Avoids a ks

pub avoids_no : (a : ℕ) (ks : List ℕ) → Avoids a ks → Passes a ks → ⊥
avoids_no a [] h p = p
avoids_no a (k ∷ ks) h (inl e) = h.0 (sym e)
avoids_no a (k ∷ ks) h (inr p) = avoids_no a ks h.1 p

pub no_avoids : (a : ℕ) (ks : List ℕ) → (Passes a ks → ⊥) → Avoids a ks
no_avoids a [] h = tt
no_avoids a (k ∷ ks) h = (λ e. h (inl (sym e)), no_avoids a ks (λ p. h (inr p)))

pub passes? : (a : ℕ) (ks : List ℕ) → Passes a ks ⊎ Avoids a ks
passes? a [] = inr tt
passes? a (k ∷ ks) = grind (arith, cases_eq a k, passes? a ks)

pub avoids_append : (a : ℕ) (ks js : List ℕ) → Avoids a ks → Avoids a js → Avoids a (ks ++ js)
avoids_append a [] js h g = g
avoids_append a (k ∷ ks) js h g = (h.0, avoids_append a ks js h.1 g)

pub passes_append : (a : ℕ) (ks js : List ℕ) → Passes a (ks ++ js) → Passes a ks ⊎ Passes a js
passes_append a [] js p = inr p
passes_append a (k ∷ ks) js p = grind (arith, passes_append a ks js)

pub passes_left : (a : ℕ) (ks js : List ℕ) → Passes a ks → Passes a (ks ++ js)
passes_left a [] js p = absurd p
passes_left a (k ∷ ks) js (inl e) = inl e
passes_left a (k ∷ ks) js (inr p) = inr (passes_left a ks js p)

pub passes_right : (a : ℕ) (ks js : List ℕ) → Passes a js → Passes a (ks ++ js)
passes_right a [] js p = p
passes_right a (k ∷ ks) js p = inr (passes_right a ks js p)

pub walks_append : (G : Links) (u v w : ℕ) (ks js : List ℕ) → Walks G u ks v → Walks G v js w → Walks G u (ks ++ js) w
walks_append G u v w [] js p q = subst (λ (x : ℕ). Walks G x js w) (sym p) q
walks_append G u v w (k ∷ ks) js p q = (p.0, p.1, walks_append G (head_of G k) v w ks js p.2 q)

-- a walk, split at a link that it passes
pub record Split (G : Links) (u v a : ℕ) (ks : List ℕ) : Type 0 where
  pub before : List ℕ
  pub after : List ℕ
  pub is : ks ≡ before ++ (a ∷ after)
  pub links : a < length G
  pub to : Walks G u before (tail_of G a)
  pub from : Walks G (head_of G a) after v

pub split : (G : Links) (u v a : ℕ) (ks : List ℕ) → Walks G u ks v → Passes a ks → Split G u v a ks
split G u v a [] w p = absurd p
split G u v a (k ∷ ks) w (inl e) =
    record {
      before = [];
      after = ks;
      is = ap (λ (x : ℕ). x ∷ ks) (sym e);
      links = rw e w.0;
      to = sym w.1 ∙ ap (tail_of G) (sym e);
      from = rw e w.2;
    }
split G u v a (k ∷ ks) w (inr p) =
    let s = split G (head_of G k) v a ks w.2 p in
    record {
      before = k ∷ s.before;
      after = s.after;
      is = ap (λ (x : List ℕ). k ∷ x) s.is;
      links = s.links;
      to = (w.0, w.1, s.to);
      from = s.from;
    }

-- a walk to the tail of b has a front that gets there without b
pub until : (G : Links) (u b : ℕ) (ks : List ℕ) → Walks G u ks (tail_of G b) → (js : List ℕ) × Walks G u js (tail_of G b) × Avoids b js
until G u b [] w = ([], w, tt)
until G u b (k ∷ ks) w = pick (cases_eq k b) (until G (head_of G k) b ks w.2)
  where
    pick : (k ≡ b) ⊎ (k ≡ b → ⊥) → (js : List ℕ) × Walks G (head_of G k) js (tail_of G b) × Avoids b js →
        (js : List ℕ) × Walks G u js (tail_of G b) × Avoids b js
    pick (inl e) r = ([], cc, tt)
    pick (inr n) r = (k ∷ r.0, (w.0, w.1, r.1), (n, r.2))

-- a walk either avoids b, or has an end behind its last b
pub since : (G : Links) (u v b : ℕ) (ks : List ℕ) → Walks G u ks v →
    Avoids b ks ⊎ ((js : List ℕ) × Walks G (head_of G b) js v × Avoids b js)
since G u v b [] w = inl tt
since G u v b (k ∷ ks) w = pick (cases_eq k b) (since G (head_of G k) v b ks w.2)
  where
    pick : (k ≡ b) ⊎ (k ≡ b → ⊥) → Avoids b ks ⊎ ((js : List ℕ) × Walks G (head_of G b) js v × Avoids b js) →
        Avoids b (k ∷ ks) ⊎ ((js : List ℕ) × Walks G (head_of G b) js v × Avoids b js)
    pick (inl e) (inl h) = inr (ks, subst (λ (x : ℕ). Walks G (head_of G x) ks v) e w.2, h)
    pick (inr n) (inl h) = inl (n, h)
    pick (inl e) (inr r) = inr r
    pick (inr n) (inr r) = inr r

-- a walk that begins at a step ends at one
pub walk_within : (n : ℕ) (G : Links) → EndsBelow n G → (u v : ℕ) (ks : List ℕ) → u < n → Walks G u ks v → v < n
walk_within n G within u v [] l w = subst (λ (x : ℕ). x < n) w l
walk_within n G within u v (k ∷ ks) l w = walk_within n G within (head_of G k) v ks (within k w.0).1 w.2

-- a walk from the first step to a link passes each leader of the link
pub leader_passed : (g : Graph) (a b : ℕ) → Leads g a b → (ks : List ℕ) → Walks g.links g.first ks (tail_of g.links b) → Passes a ks
leader_passed g a b l ks w =
    pick (passes_append a ks (b ∷ []) (l.3 (head_of g.links b) (ks ++ (b ∷ []))
    (walks_append g.links g.first (tail_of g.links b) (head_of g.links b) ks (b ∷ []) w (l.2, refl, refl)) (passes_right b ks (b ∷ []) (inl refl))))
  where
    pick : Passes a ks ⊎ Passes a (b ∷ []) → Passes a ks
    pick (inl p) = p
    pick (inr (inl e)) = absurd (l.0 e)
    pick (inr (inr n)) = absurd n

-- the front of a walk from the first step to a link, without the link and what it leads
pub led_avoided : (g : Graph) (a b : ℕ) → Leads g a b → (ks : List ℕ) → Walks g.links g.first ks (tail_of g.links a) →
    (js : List ℕ) × Walks g.links g.first js (tail_of g.links a) × Avoids a js × Avoids b js
led_avoided g a b l ks w =
    let u = until g.links g.first a ks w in
    (u.0, u.1, u.2, no_avoids b u.0 (λ p. avoids_no a u.0 u.2 (l.3 (tail_of g.links a) u.0 u.1 p)))
