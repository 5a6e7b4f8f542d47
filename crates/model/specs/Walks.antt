-- Walks of a plan, and what they tell: classes, which link leads which, fragments, what is inside them, sound plans.
use Rattle.std.specs.Prelude.{◌≡◌, ℕ, ◌<◌, ◌≤◌, ◌≢◌, ◌⊎◌, ◌↔◌, List, [], ◌∷◌, ◌++◌, length}
use Rattle.model.specs.Meaning.{Graph, tail_of, head_of, EndsBelow}

-- Links stand in a list, and the number of a link is its place there.
abbrev pub Links : Type 0
Links = List (ℕ × ℕ)

-- The closed plan: the plan with a return link from last to first. The return link has the number after the plan's own links.
abbrev pub closed : Graph → Links
closed g = g.links ++ ((g.last, g.first) ∷ [])

-- The links ks are a walk from step u to step v: each starts at the step where the one before ends. The walk of no links stays at its step.
abbrev pub Walks : Links → ℕ → List ℕ → ℕ → Type 0
Walks G u [] v = u ≡ v
Walks G u (k ∷ ks) v = (k < length G) × (tail_of G k ≡ u) × Walks G (head_of G k) ks v

-- The walk passes link a.
abbrev pub Passes : ℕ → List ℕ → Type 0
Passes a [] = ⊥
Passes a (k ∷ ks) = (a ≡ k) ⊎ Passes a ks

-- A closed walk has at least one link and ends at the step where it began.
abbrev pub ClosedWalk : Links → ℕ → List ℕ → Type 0
ClosedWalk G u ks = (1 ≤ length ks) × Walks G u ks u

-- Two links share a class: every closed walk that passes either passes the other. For a plan, G is the closed plan.
abbrev pub Share : Links → ℕ → ℕ → Type 0
Share G a b = (u : ℕ) (ks : List ℕ) → ClosedWalk G u ks → (Passes a ks ↔ Passes b ks)

-- Link c names the class of link l: it is the smallest link of the plan that shares the class. The return link names none.
pub record ClassName (g : Graph) (l c : ℕ) : Type 0 where
  pub is_link : c < length g.links
  pub shares : Share (closed g) c l
  pub smallest : (k : ℕ) → k < length g.links → Share (closed g) k l → c ≤ k

-- Link a leads link b: they differ, both are links of the plan, and every walk of the plan from the first step that passes b passes a.
abbrev pub Leads : Graph → ℕ → ℕ → Type 0
Leads g a b =
    (a ≢ b) × (a < length g.links) × (b < length g.links) × ((v : ℕ) (ks : List ℕ) → Walks g.links g.first ks v → Passes b ks → Passes a ks)

-- The pair (a, b) is single-entry single-exit: a and b share a class and a leads b.
pub record SingleEntryExit (g : Graph) (a b : ℕ) : Type 0 where
  pub shares : Share (closed g) a b
  pub leads : Leads g a b

-- It is a canonical fragment, with entry a and exit b, when no third link of the class is led by a and leads b.
pub record Canonical (g : Graph) (a b : ℕ) : Type 0 where
  pub pair : SingleEntryExit g a b
  pub no_third : (x : ℕ) → Share (closed g) a x → Leads g a x → Leads g x b → ⊥

-- Step s is inside (a, b): some walk of the plan from the head of a to s does not pass b.
abbrev pub Inside : Graph → ℕ → ℕ → ℕ → Type 0
Inside g a b s = ∥ ((ks : List ℕ) × Walks g.links (head_of g.links a) ks s × (Passes b ks → ⊥)) ∥₁

-- A plan is sound when no link enters the first step, none leaves the last, and every step lies on a walk from first to last.
-- That first, last and the ends of links are steps, `begins`, `ends` and `within`, holds of every plan.
pub record Sound (g : Graph) : Type 0 where
  pub begins : g.first < g.steps
  pub ends : g.last < g.steps
  pub within : EndsBelow g.steps g.links
  pub none_in : (k : ℕ) → k < length g.links → head_of g.links k ≢ g.first
  pub none_out : (k : ℕ) → k < length g.links → tail_of g.links k ≢ g.last
  pub between :
      (s : ℕ) → s < g.steps →
      ∥ ((ks : List ℕ) × (js : List ℕ) × Walks g.links g.first ks s × Walks g.links s js g.last) ∥₁
