-- The easy direction: two links that are the only ones across a set share every closed walk.
use Rattle.std.proofs.Common.{◌≡◌, ℕ, ◌<◌, Bool, true, not, ◌≢◌, List, [], ◌∷◌, length, sym, ap, ◌∙◌, arith}
use Rattle.std.proofs.lemmas.Bool.{cases_eq, both_ways}
use Rattle.model.specs.Meaning.{tail_of, head_of}
use Rattle.model.specs.Walks.{Links, Walks, Passes, Share}
use Rattle.theory.specs.Cuts.{Cut}
use Rattle.theory.proofs.Decide.{turned}
use Rattle.theory.proofs.Walks.{Avoids}

-- no link but b leaves the set
abbrev pub Keeps : Links → ℕ → (ℕ → Bool) → Type 0
Keeps G b S = (k : ℕ) → k < length G → k ≢ b → S (tail_of G k) ≡ true → S (head_of G k) ≡ true

pub stays : (G : Links) (b : ℕ) (S : ℕ → Bool) → Keeps G b S → (u v : ℕ) (ks : List ℕ) → Walks G u ks v → Avoids b ks → S u ≡ true → S v ≡ true
stays G b S keeps u v [] w h s = ap S (sym w) ∙ s
stays G b S keeps u v (k ∷ ks) w h s =
    stays G b S keeps (head_of G k) v ks w.2 h.1 (keeps k w.0 h.0 (ap S w.1 ∙ s))

pub cut_keeps : (G : Links) (a b : ℕ) (S : ℕ → Bool) → Cut G a b S → Keeps G b S
cut_keeps G a b S c k l n s =
    let other = c.others k l in
    let to = c.a_to in
    grind (arith, cases_eq k a)

-- a closed walk through a passes b
pub forced : (G : Links) (a b : ℕ) (S : ℕ → Bool) → Cut G a b S → (u : ℕ) (ks : List ℕ) → Walks G u ks u → Passes a ks → Passes b ks
forced G a b S c =
    turned G a b (λ ks w h. both_ways (S (tail_of G a)) c.a_from (stays G b S (cut_keeps G a b S c) (head_of G a) (tail_of G a) ks w h c.a_to))

-- the other side of a cut is a cut
pub flip : (G : Links) (a b : ℕ) (S : ℕ → Bool) → Cut G a b S → Cut G b a (λ v. not (S v))
flip G a b S c =
    record {
      a_from = ap not c.b_from;
      a_to = ap not c.b_to;
      b_from = ap not c.a_from;
      b_to = ap not c.a_to;
      others = λ k l m n. ap not (c.others k l n m);
    }

pub cut_shares : (G : Links) (a b : ℕ) (S : ℕ → Bool) → Cut G a b S → Share G a b
cut_shares G a b S c u ks w = (forced G a b S c u ks w.1, forced G b a (λ v. not (S v)) (flip G a b S c) u ks w.1)
