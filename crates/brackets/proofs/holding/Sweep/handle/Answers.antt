use Rattle.std.proofs.Common.{◌≡◌, ℕ, ◌+◌, ◌-◌, ◌<◌, min, List, length, set, Option, Some, None, MatchOption, vec_items, vec_len, sym, ap, ◌∙◌, ap₂, arith, rules}
use Rattle.std.proofs.lemmas.Option.{none-some, same_Some}
use Rattle.std.specs.Option.{option_map, IsSomeAnd}
use Rattle.lists.specs.Many.{row}
use Rattle.lists.specs.Rows.{top}
use Rattle.brackets.specs.declared.holding.Bracket.{Bracket}
use Rattle.brackets.specs.declared.holding.Name.{Name}
use Rattle.brackets.specs.declared.levels.Level.{Level}
use Rattle.brackets.specs.Levels.{level, having_child}
use Rattle.brackets.specs.Live.{left, passed, capped_levels}
use Rattle.brackets.specs.Turned.{rows_capped, list_after, len_after}
use Rattle.brackets.proofs.Live.{left_same, passed_same}
use Rattle.brackets.proofs.Seen.{level_read}
use Rattle.brackets.proofs.holding.Sweep.handle.Goals as goal
use Rattle.brackets.proofs.holding.Sweep.handle.Goals.{After-pass_on-top}

-- a list with a top has a name
named : (o : Option ℕ) (b : Option Bracket) (r : Option Name) (l : ℕ) (Made : ℕ → Name → Type 0) → o ≡ option_map (λ b. b.item) b → MatchOption o (r ≡ None) (λ x. IsSomeAnd r (Made x)) →
    ((x : ℕ) (y : Name) → Made x y → y ≡ record { top = x; len = l }) → r ≡ option_map (λ b. record { top = b.item; len = l }) b
named None None r l Made e m k = m
named None (Some b) r l Made e m k = absurd (none-some b.item e)
named (Some x) None r l Made e m k = absurd (none-some x (sym e))
named (Some x) (Some b) None l Made e m k = absurd m
named (Some x) (Some b) (Some y) l Made e m k = ap Some (k x y m ∙ ap (λ (t : ℕ). record { top = t; len = l }) (same_Some x b.item e))

-- and the name has that top
topped : (o : Option ℕ) (r : Option Name) (Made : ℕ → Name → Type 0) → MatchOption o (r ≡ None) (λ x. IsSomeAnd r (Made x)) → ((x : ℕ) (y : Name) → Made x y → y.top ≡ x) → option_map (λ n. n.top) r ≡ o
topped None r Made m k = ap (option_map (λ n. n.top)) m
topped (Some x) None Made m k = absurd m
topped (Some x) (Some y) Made m k = ap Some (k x y m)

-- the lists that are used are there
inside : (c : After-pass_on-top) →
    (c.args.v < length c.push_cap.new.self.brackets) × (c.len.result + c.args.v < length c.push_cap.new.self.brackets) × (c.args.parent < length c.push_cap.new.self.brackets)
inside c =
    let n : length c.push_cap.new.self.brackets ≡ c.len.result + c.len.result = omega (arith, c.push_cap.new.self.lists, c.len.ensures) in
    let v : c.args.v < c.len.result = omega (arith, c.len.ensures, c.push_cap.ensures.len, c.requires.within) in
    (omega arith, omega arith, omega (arith, c.requires.parent))

-- the live list, by the lists before the turn
list_is : (c : After-pass_on-top) → left (row c.push_cap.new.self.brackets) c.args.v (c.len.result + c.args.v) ≡
    list_after (vec_len c.args.self.now.levels) c.args.links (vec_items c.args.self.now.levels) (row c.args.self.now.brackets) c.args.v
list_is c =
    let w = c.args.self.now in
    let v = c.args.v in
    let t = c.push_cap.new.self.brackets in
    let in_t = inside c in
    let capped = rows_capped (vec_len w.levels) c.args.links (vec_items w.levels) (row w.brackets) v in
    left_same (length t) v (c.len.result + v) c.args.parent in_t.0 in_t.1 in_t.2 (row t) capped c.in_ok-push_cap.ensures.rows ∙
    ap (λ (i : ℕ). left capped v (i + v)) (c.len.ensures ∙ c.push_cap.ensures.len)

pub returns-clause-top : goal.returns-clause-top
returns-clause-top c =
    topped c.pass_on-top.result c.map.result _ c.map.ensures.cases (λ x y q. let e : y ≡ record { top = x; len = c.list_len-len.result } = search rules in ap (λ (n : Name). n.top) e) ∙
    c.pass_on-top.ensures.top ∙ ap (λ (bs : List Bracket). option_map (λ b. b.item) (top bs)) (list_is (goal.at.returns-clause-top c).After-pass_on-top)

pub returns-clause-rows : goal.returns-clause-rows
returns-clause-rows c = λ j lt.
    let w = c.args.self.now in
    let v = c.args.v in
    let t = c.push_cap.new.self.brackets in
    let in_t = inside (goal.at.returns-clause-rows c).After-pass_on-top in
    let capped = rows_capped (vec_len w.levels) c.args.links (vec_items w.levels) (row w.brackets) v in
    c.pass_on-top.ensures.rows j lt ∙ passed_same (length t) v (c.len.result + v) c.args.parent in_t.0 in_t.1 in_t.2
    (row t) capped c.in_ok-push_cap.ensures.rows j (omega (arith, c.pass_on-top.ensures.len)) ∙
    ap (λ (i : ℕ). passed capped v (i + v) c.args.parent j) (c.len.ensures ∙ c.push_cap.ensures.len)

pub returns-clause-counts : goal.returns-clause-counts
returns-clause-counts c = λ f.
    let w = c.args.self.now in
    let v = c.args.v in
    let n = vec_len w.levels in
    let ls = vec_items w.levels in
    let t = c.push_cap.new.self.brackets in
    let in_t = inside (goal.at.returns-clause-counts c).After-pass_on-top in
    let capped = rows_capped n c.args.links ls (row w.brackets) v in
    let own : c.len.result + v ≡ n + v = ap (λ (i : ℕ). i + v) (c.len.ensures ∙ c.push_cap.ensures.len) in
    let here = level_read ls v c.index-level.result.now (omega (arith, c.requires.within, w.levels.ok.0)) c.index-level.ensures in
    let size = c.size_at.ensures ∙ ap length (c.in_ok-push_cap.ensures.rows (c.len.result + v) in_t.1) ∙ ap (λ (i : ℕ). length (capped i)) own in
    let len : c.list_len-len.result ≡ len_after n c.args.links ls (row w.brackets) v =
    c.list_len-len.ensures (let e = ap (λ (l : Level). l.len) here in omega (arith, f.list, size)) ∙ ap₂ ◌-◌ (ap₂ ◌+◌ size (ap (λ (l : Level). l.len) here)) (ap (λ (l : Level). l.ends) here) in
    let put = c.in_ok-push_cap.ensures.levels f.room in
    let above = level_read (vec_items c.push_cap.new.self.levels) c.args.parent c.index-above.result.now (omega (arith, c.requires.within, c.requires.parent, c.push_cap.ensures.len, c.push_cap.new.self.levels.ok.0)) c.index-above.ensures ∙
    ap (λ (t : List Level). level t c.args.parent) put in
    let child = c.with_child.ensures (let e = ap (λ (l : Level). l.len) above in omega (arith, f.children, len)) in (
      named _ (top (list_after n c.args.links ls (row w.brackets) v)) _ _ _ (c.pass_on-top.ensures.top ∙
          ap (λ (bs : List Bracket). option_map (λ b. b.item) (top bs)) (list_is (goal.at.returns-clause-counts c).After-pass_on-top)) c.map.ensures.cases
          (λ x y q. let e : y ≡ record { top = x; len = c.list_len-len.result } = search rules in e ∙ ap (λ (l : ℕ). record { top = x; len = l }) len),
      ap₂ (λ (t : List Level) (l : Level). set t c.args.parent l) put
          (child ∙ ap₂ (λ (t : Level) (l : ℕ). having_child t c.hi.result l) above len ∙
          ap (λ (h : ℕ). having_child (level (capped_levels ls v) c.args.parent) h (len_after n c.args.links ls (row w.brackets) v)) (c.hi.ensures ∙ ap (λ (t : Level). min t.hi0 t.hi1) here)),
    )
