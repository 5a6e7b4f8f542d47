use Rattle.std.proofs.Common.{◌≡◌, ◌<◌, ℕ, List, [], ◌∷◌, ◌++◌, length, sum_by, vec_items, sym, ap, ◌∙◌, subst, arith, length-set}
use Rattle.std.specs.List.{All}
use Rattle.std.proofs.lemmas.List.{length_push, length-replicate}
use Rattle.std.proofs.lemmas.List.Folds.{sum_by-replicate}
use Rattle.std.proofs.lemmas.List.Elements.{All-nil}
use Rattle.std.proofs.lemmas.List.Sums.{sum_by-set}
use Rattle.lists.specs.Many.{row, EachItem}
use Rattle.lists.proofs.Many.{each-set, each-replicate}
use Rattle.rows.specs.declared.arranging.Record.{Record}
use Rattle.rows.specs.declared.nesting.Fragment.{Fragment}
use Rattle.rows.specs.Nests.{entry_of, exit_of, SiteIn, Sites, Entries, Exits, Placed}
use Rattle.rows.specs.Orders.{After, Known, Lies, Numbered}
use Rattle.rows.proofs.Gathers.{length-gathered, sum-gathered, each-put}
use Rattle.rows.proofs.Sited.{site-last, sites-front, linked-last, linked-front, placed-last, placed-front}
use Rattle.rows.proofs.nesting.Nesting.in_order.Goals as goal
use Rattle.rows.proofs.nesting.Nesting.in_order.Goals.{In-Some}

-- what is left of the fragments, and the last of them
taken : (c : In-Some) → c.loop-k.k-iterator.iter.iter.rest.now ≡ c.next.new.self.iter.iter.rest.now ++ c.in-Some.fragment.now ∷ []
taken c = c.in-Some.ensures.steps.1.0

number : (c : In-Some) → c.in-Some.k ≡ length c.next.new.self.iter.iter.rest.now
number c = omega (arith, c.in-Some.ensures.steps.1.1, c.loop-k.invariant.first)

within : (c : In-Some) → c.in-Some.k < length (vec_items c.args.self.now.fragments)
within c = omega (arith, number c, ap length (taken c), length_push c.next.new.self.iter.iter.rest.now c.in-Some.fragment.now, c.loop-k.invariant.counted)

pub loop-k-init : goal.loop-k-init
loop-k-init c =
    let s = c.args.self.now in
    let n = length (vec_items s.fragments) in
    let m = length (vec_items s.entered) in
    let all : c.into_iter-k-iterator.result.iter.iter.rest.now ≡ vec_items s.fragments = cc in
    let none = c.in_ok-below.ensures in
    let long = length-replicate {A = List Record} c.len.result [] in
    record {
      first = cc;
      sites = subst Sites (sym all) s.sites;
      placed = subst Placed (sym all) s.placed;
      counted = omega (arith, ap (sum_by length) none, sum_by-replicate {X = List Record} length c.len.result [], ap length all, c.len.ensures, s.fragments.ok.0);
      lists = omega (arith, ap length none, long, c.len.ensures, s.fragments.ok.0);
      same = c.in_ok-children.ensures.0;
      after = c.in_ok-children.ensures.1;
      numbered = subst (EachItem (λ _. Numbered n)) (sym none) (each-replicate (λ _. Numbered n) c.len.result);
      known = λ e x. (subst (Entries m) (sym all) e, subst (Exits m) (sym all) x, subst (EachItem (λ _. Known m n)) (sym none) (each-replicate (λ _. Known m n) c.len.result));
      lies = subst (EachItem (λ _. Lies)) (sym none) (each-replicate (λ _. Lies) c.len.result);
    }

pub gather-requires : goal.gather-requires
gather-requires c =
    let k = c.in-Some.k in
    let known = c.loop-k.invariant in
    let lt = within (goal.at.gather-requires c).In-Some in
    record {
      within = omega (arith, lt, known.lists);
      same = known.same ∙ sym known.lists;
      after = subst (λ (j : ℕ). All (After j k) (row c.loop-k.children k)) (sym known.lists) (known.after k (omega (arith, lt, known.same)));
    }

pub push_at-requires : goal.push_at-requires
push_at-requires c =
    let k = c.in-Some.k in
    omega (arith, within (goal.at.push_at-requires c).In-Some, ap length c.gather.ensures.below, length-gathered c.loop-k.below k (row c.loop-k.children k), c.loop-k.invariant.lists)

pub loop-k-preserved : goal.loop-k-preserved
loop-k-preserved c =
    let i = (goal.at.loop-k-preserved c).In-Some in
    let s = c.args.self.now in
    let n = length (vec_items s.fragments) in
    let m = length (vec_items s.entered) in
    let k = c.in-Some.k in
    let known = c.loop-k.invariant in
    let left = c.next.new.self.iter.iter.rest.now in
    let fragment : Fragment = c.in-Some.fragment.now in
    let sites : Sites (left ++ fragment ∷ []) = subst Sites (taken i) known.sites in
    let site : SiteIn k fragment = subst (λ (j : ℕ). SiteIn j fragment) (sym (number i)) (site-last left fragment sites) in
    let placed : Placed (left ++ fragment ∷ []) = subst Placed (taken i) known.placed in
    let old = c.loop-k.below in
    let moved = row c.loop-k.children k in
    let lt : k < length old = omega (arith, within i, known.lists) in
    let after : All (After (length old) k) moved = subst (λ (j : ℕ). All (After j k) moved) (sym known.lists) (known.after k (omega (arith, within i, known.same))) in
    let g = c.gather.new.below in
    let e = c.gather.ensures.below in
    let long : length g ≡ n = ap length e ∙ length-gathered old k moved ∙ known.lists in
    let p = c.in_ok-push_at.ensures in
    let r : Record = record { number = k; fragment = fragment } in
    let here : Numbered n r = (within i, λ q is. omega (arith, site q is, within i)) in
    let lies : Lies r = λ first. placed-last left fragment placed (omega (arith, first, number i)) in
    record {
      first = c.in-Some.ensures.steps.0 ∙ known.first;
      sites = sites-front left fragment sites;
      placed = placed-front left fragment placed;
      counted = omega (arith, ap (sum_by length) p, ap (sum_by length) e, sum-gathered old k moved lt after, sum_by-set length g k (r ∷ row g k) [] (omega (arith, long, within i)), ap length (taken i), length_push left fragment, known.counted);
      lists = ap length p ∙ length-set g k _ ∙ long;
      same = ap length c.gather.ensures.children ∙ length-set c.loop-k.children k [] ∙ known.same;
      after = subst (EachItem (After n)) (sym c.gather.ensures.children) (each-set (After n) c.loop-k.children k [] known.after (All-nil (After n k)));
      numbered = subst (EachItem (λ _. Numbered n)) (sym p) (each-put (Numbered n) old g k moved r lt after e here known.numbered);
      known = λ entries exits.
          let told = known.known entries exits in
          let entered : Entries m (left ++ fragment ∷ []) = subst (Entries m) (taken i) told.0 in
          let left_by : Exits m (left ++ fragment ∷ []) = subst (Exits m) (taken i) told.1 in
          (linked-front entry_of m left fragment entered, linked-front exit_of m left fragment left_by, subst (EachItem (λ _. Known m n)) (sym p) (each-put (Known m n) old g k moved r lt after e (here, linked-last entry_of m left fragment entered, linked-last exit_of m left fragment left_by) told.2));
      lies = subst (EachItem (λ _. Lies)) (sym p) (each-put Lies old g k moved r lt after e lies known.lies);
    }
