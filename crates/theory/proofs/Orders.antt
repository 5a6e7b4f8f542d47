-- Every search finds the links of a class in the order in which they lead each other.
use Rattle.std.proofs.Common.{◌≡◌, ℕ, zero, suc, ◌<◌, ◌⊎◌, ◌↔◌, List, [], ◌∷◌, ◌++◌, length, sym, refl, subst, inl, inr, arith}
use Rattle.model.specs.Meaning.{Graph, tail_of, head_of}
use Rattle.model.specs.Walks.{closed, Walks, Passes, Share, Leads, Canonical, Sound}
use Rattle.theory.specs.Orders.{SearchOrder, link_at, Neighbours, LeaderFirst, FragmentsNeighbours}
use Rattle.theory.proofs.Walks.{passes_append, walks_append, leader_passed}
use Rattle.theory.proofs.Sides.{share_sym, share_trans}
use Rattle.theory.proofs.Lines.{line}

-- every link of the walk stands earlier than i
abbrev Earlier : List ℕ → ℕ → List ℕ → Type 0
Earlier order i ks = (k : ℕ) → Passes k ks → (j : ℕ) × (j < i) × (link_at order j ≡ k)

module _ (g : Graph) (order : List ℕ) (found : SearchOrder g order) where
  -- a walk from first to the tail of each link, by earlier links
  way : (f i : ℕ) → i < f → i < length order → (ks : List ℕ) × Walks g.links g.first ks (tail_of g.links (link_at order i)) × Earlier order i ks
  way zero i lf l = absurd (omega arith)
  way (suc f) i lf l = pick (found.follows i l) (λ j lj. way f j (omega arith) (omega arith))
    where
      Way : ℕ → Type 0
      Way i = (ks : List ℕ) × Walks g.links g.first ks (tail_of g.links (link_at order i)) × Earlier order i ks

      pick :
          (tail_of g.links (link_at order i) ≡ g.first) ⊎
          ((j : ℕ) × (j < i) × (head_of g.links (link_at order j) ≡ tail_of g.links (link_at order i))) →
          ((j : ℕ) → j < i → (ks : List ℕ) × Walks g.links g.first ks (tail_of g.links (link_at order j)) × Earlier order j ks) → Way i
      pick (inl e) more = ([], sym e, λ k p. absurd p)
      pick (inr (j, lj, e)) more =
          let w = more j lj in
          let k = link_at order j in (
            w.0 ++ (k ∷ []),
            walks_append g.links g.first (tail_of g.links k) (tail_of g.links (link_at order i)) w.0 (k ∷ []) w.1 (found.link j (omega arith), refl, e),
            λ x p. earlier w.0 x w.2 (passes_append x w.0 (k ∷ []) p),
          )
        where
          earlier :
              (ks : List ℕ) (x : ℕ) → Earlier order j ks → Passes x ks ⊎ Passes x (link_at order j ∷ []) → (h : ℕ) × (h < i) × (link_at order h ≡ x)
          earlier ks x old (inl p) = let h = old x p in (h.0, omega (arith, h.1), h.2)
          earlier ks x old (inr (inl q)) = (j, lj, sym q)
          earlier ks x old (inr (inr q)) = absurd q

  pub first : (i j : ℕ) → i < length order → j < length order → Leads g (link_at order i) (link_at order j) → i < j
  first i j li lj l =
      let w = way (suc j) j (omega arith) lj in
      let h = w.2 (link_at order i) (leader_passed g (link_at order i) (link_at order j) l w.0 w.1) in
      let e = found.once h.0 i (omega (arith, h.1)) li h.2 in
      omega (arith, h.1)

  module _ (sound : Sound g) where
    -- of two links of a class the earlier one leads
    leads : (i j : ℕ) → i < j → j < length order → Share (closed g) (link_at order i) (link_at order j) → Leads g (link_at order i) (link_at order j)
    leads i j l lj s = pick (line g sound (link_at order i) (link_at order j) (found.link i (omega arith)) (found.link j lj) (λ e. let q = found.once i j (omega arith) lj e in omega arith) s)
      where
        pick : Leads g (link_at order i) (link_at order j) ⊎ Leads g (link_at order j) (link_at order i) → Leads g (link_at order i) (link_at order j)
        pick (inl h) = h
        pick (inr h) = let k = first j i lj (omega arith) h in absurd (omega arith)

    pub neighbours : (i j : ℕ) → i < length order → j < length order → (Canonical g (link_at order i) (link_at order j) ↔ Neighbours g order i j)
    neighbours i j li lj = (there, back)
      where
        a : ℕ
        a = link_at order i

        b : ℕ
        b = link_at order j

        there : Canonical g (link_at order i) (link_at order j) → Neighbours g order i j
        there c = (
          first i j li lj c.pair.leads,
          c.pair.shares,
          λ k lk kl s.
              c.no_third (link_at order k) s (leads i k lk (omega arith) s)
              (leads k j kl lj (share_trans (closed g) (link_at order k) a b (share_sym (closed g) a (link_at order k) s) c.pair.shares)),
        )

        back : Neighbours g order i j → Canonical g (link_at order i) (link_at order j)
        back n = record { pair = record { shares = n.1; leads = leads i j n.0 lj n.1 }; no_third = none }
          where
            none : (x : ℕ) → Share (closed g) (link_at order i) x → Leads g (link_at order i) x → Leads g x (link_at order j) → ⊥
            none x s l r =
                let k = found.every x r.1 in
                let e = sym k.2 in
                n.2 k.0 (first i k.0 li k.1 (subst (Leads g (link_at order i)) e l)) (first k.0 j k.1 lj (subst (λ (y : ℕ). Leads g y (link_at order j)) e r))
                (subst (Share (closed g) (link_at order i)) e s)

pub leader_first : LeaderFirst
leader_first = first

pub fragments_neighbours : FragmentsNeighbours
fragments_neighbours g sound order found = neighbours g order found sound
