use Rattle.std.proofs.Common.{◌≡◌, ℕ, ◌<◌, true, ltb, ◌⊎◌, ◌↔◌, sym, refl, ap, ◌∙◌, subst, inl, inr, arith, Decides}
use Rattle.std.proofs.lemmas.Bool.Decides.{nat_tests}
use mathlib.Core.Bool.{xor}
use Rattle.std.proofs.lemmas.Bool.{both_ways, eqb-true, eq-eqb, lt-ltb, not_from_true}
use Rattle.naming.specs.Words.{Elem}
use Rattle.naming.specs.Names.{Shape, Treelike, Bracket, Named}
use Rattle.naming.specs.Built.{shape_of}
use Rattle.naming.specs.Searched.{Searched, Upward, base_of}
use Rattle.naming.specs.Crossing.{crossing, Outer, Drawn, NamesCross, NamesCrossStands}
use Rattle.naming.proofs.Searched.{searched_stands, law, own_link, link_src, link_dst, link_of}
use Rattle.naming.proofs.Bridge.{bridge}
use Rattle.naming.proofs.Xor.{xor_self}

module _ (P : Searched) (good : Upward P) (tail head link : ℕ → ℕ) (drawn : Drawn P tail head link) where
  abbrev S : Shape ℕ
  S = shape_of (base_of P)

  -- a bracket is a back link
  of_bracket : (k x : ℕ) → Bracket S k x → Elem x (P.links (S.src x))
  of_bracket k x b = link_of P good (S.src x) x b.0.item b.1

  pub outer_bracket : (k x : ℕ) → Bracket S k x → (x < P.many) × Outer P link x
  outer_bracket k x b =
      ((good.link (S.src x) x b.0.within (of_bracket k x b)).0, drawn.outer (S.src x) x b.0.within (of_bracket k x b))

  crosses_link : (k x : ℕ) → k < P.size → P.from x < P.size → Elem x (P.links (P.from x)) →
      (crossing P tail head k x ≡ true) ↔ ((S.sub k (P.from x) ≡ true) × (P.to x < k))
  crosses_link k x lk lf m = pick (drawn.ends (P.from x) x lf m)
    where
      up : S.sub (P.to x) (P.from x) ≡ true
      up = (good.link (P.from x) x lf m).3

      tree : Treelike S
      tree = (law P good).tree

      pick : ((tail x ≡ P.from x) × (head x ≡ P.to x)) ⊎ ((tail x ≡ P.to x) × (head x ≡ P.from x)) →
          (crossing P tail head k x ≡ true) ↔ ((S.sub k (P.from x) ≡ true) × (P.to x < k))
      pick (inl e) = rw (e.0, e.1) ((bridge S tree).cross k (P.from x) (P.to x) lk lf up)
      pick (inr e) = rw (e.0, e.1) ((bridge S tree).cross_turned k (P.from x) (P.to x) lk lf up)

  to_bracket : (k x : ℕ) → k < P.size → P.from x < P.size → Elem x (P.links (P.from x)) → crossing P tail head k x ≡ true → Bracket S k x
  to_bracket k x lk lf m h =
      let c = (crosses_link k x lk lf m).0 h in
      let g = good.link (P.from x) x lf m in
      let s = link_src P good x g.0 in
      let t = link_dst P good x g.0 in (
        record {
          within = omega arith;
          item = subst (λ (i : ℕ). Elem x (S.own i)) (sym s) (own_link P good (P.from x) x m);
          below = ap (S.sub k) s ∙ c.0;
          above = omega (arith, c.1);
        },
        not_from_true (ltb x P.many) (lt-ltb x P.many g.0),
      )

  pub crossing_bracket : (k e : ℕ) → k < P.size → e < P.many → Outer P link e → crossing P tail head k e ≡ true → Bracket S k e
  crossing_bracket k e lk le o h = pick (drawn.each e le o)
    where
      pick : (tail e ≡ head e) ⊎ ((P.from e < P.size) × Elem e (P.links (P.from e))) → Bracket S k e
      pick (inl q) = absurd (both_ways (crossing P tail head k e) (ap (λ (i : ℕ). xor (S.sub k i) (S.sub k (head e))) q ∙ xor_self (S.sub k (head e))) h)
      pick (inr q) = to_bracket k e lk q.0 q.1 h

  bracket_crossing : (k e : ℕ) → k < P.size → Bracket S k e → crossing P tail head k e ≡ true
  bracket_crossing k e lk b =
      let m = of_bracket k e b in
      let g = good.link (S.src e) e b.0.within m in
      let s = link_src P good e g.0 in
      let t = link_dst P good e g.0 in
      (crosses_link k e lk (omega (arith, b.0.within)) (subst (λ (i : ℕ). Elem e (P.links i)) s m)).1
      (ap (S.sub k) (sym s) ∙ b.0.below, omega (arith, b.0.above))

  told : (k e : ℕ) → k < P.size → e < P.many → Outer P link e → Decides (crossing P tail head k e) (Bracket S k e)
  told k e lk le o = (crossing_bracket k e lk le o, bracket_crossing k e lk)

  pub crossed : (d : ℕ) → NamesCross P tail head link d
  crossed d =
      record {
        inner = λ k j lk lj. (
          λ h e le o. let n = (all.names k j lk lj).0 h e in let t = told k e lk le o in let u = told j e lj le o in grind arith,
          λ h. (all.names k j lk lj).1 (λ x. (
            λ b. let o = outer_bracket k x b in crossing_bracket j x lj o.0 o.1 (sym (h x o.0 o.1) ∙ bracket_crossing k x lk b),
            λ b. let o = outer_bracket j x b in crossing_bracket k x lk o.0 o.1 (h x o.0 o.1 ∙ bracket_crossing j x lj b),
          )),
        );
        mixed = λ k b lk lb ob. (
          λ h e le o. let n = (all.lone k b lk).0 h e in let t = told k e lk le o in grind (arith, nat_tests),
          λ h. (all.lone k b lk).1 (λ x. (
            λ q. let o = outer_bracket k x q in eqb-true x b (sym (h x o.0 o.1) ∙ bracket_crossing k x lk q),
            λ q. subst (λ (i : ℕ). Bracket S k i) (sym q) (crossing_bracket k b lk lb ob (h b lb ob ∙ eq-eqb b b refl)),
          )),
        );
      }
    where
      all : Named ℕ S d
      all = (searched_stands P good d).1

pub names_cross : NamesCrossStands
names_cross P tail head link d good drawn = crossed P good tail head link drawn d
