use Rattle.std.proofs.Common.{ℕ, ◌≡◌, ◌<◌, Bool, true, false, List, length, get_or, IfSome, vec_items, Option, Some, None, MatchOption, unwrap_or, sym, refl, ap, ◌∙◌, subst}
use Rattle.std.specs.Bool.{then_some}
use Rattle.theory.specs.Each.{EachSome}
use Rattle.theory.proofs.Elements.{each_some_read}
use Rattle.brackets.specs.declared.holding.Name.{Name}
use Rattle.classes.specs.declared.names.Latest.{Latest}
use Rattle.classes.specs.Named.{Named}
use Rattle.classes.proofs.names.Names.first_named.Goals as goal

-- what was there, if it passes a test, or y
kept : (m : ℕ) (xs : List (Option Latest)) (k : ℕ) (o r : Option Latest) (y z : Latest) (Tested : Latest → Bool → Type 0) → EachSome (Named m) xs → k < length xs → o ≡ get_or xs k o →
    MatchOption o (r ≡ None) (λ x. (b : Bool) × Tested x b × (r ≡ then_some b x)) → Named m y → z ≡ unwrap_or r y → Named m z
kept m xs k None r y z Tested all lt e f p q = subst (Named m) (sym (q ∙ ap (λ o. unwrap_or o y) f)) p
kept m xs k (Some x) r y z Tested all lt e (true, t, f) p q = subst (Named m) (sym (q ∙ ap (λ o. unwrap_or o y) f)) (each_some_read (Named m) xs k (Some x) x all lt e refl)
kept m xs k (Some x) r y z Tested all lt e (false, t, f) p q = subst (Named m) (sym (q ∙ ap (λ o. unwrap_or o y) f)) p

pub returns-clause-below : goal.returns-clause-below
returns-clause-below c =
    let s = c.args.self.now in
    let top = subst (λ (o : Option Name). IfSome o (λ n. n.top < length (vec_items s.latest))) c.in-Some.is c.requires.top in
    kept s.links (vec_items s.latest) c.in-Some.field-0.top _ _ _ _ _ s.known top c.index.ensures c.filter.ensures c.requires.link c.unwrap_or-latest.ensures
