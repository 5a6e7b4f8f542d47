-- Tests that decide a property, beside those of std.
use Rattle.std.proofs.Common.{◌≡◌, ℕ, ◌<◌, ◌≤◌, Bool, true, not, ◌&&◌, ◌||◌, leb, Decides, refl, arith}
use Rattle.std.proofs.lemmas.Bool.{leb-true, le-leb}
use Rattle.std.proofs.lemmas.Bool.Decides.{Decides-below_and}
use Rattle.theory.specs.Tests.{each_below}

pub t_and3 : (b c d : Bool) (P Q R : Type 0) → Decides b P → Decides c Q → Decides d R → Decides (b && (c && d)) (P × Q × R)
t_and3 b c d P Q R p q r = grind arith

pub t_imp : (b c : Bool) (P Q : Type 0) → Decides b P → Decides c Q → Decides (not b || c) (P → Q)
t_imp b c P Q p q = grind arith

pub t_le : (a b : ℕ) → Decides (leb a b) (a ≤ b)
t_le a b = (leb-true a b, le-leb a b)

all_below : (f : ℕ → Bool) (n : ℕ) → Decides (each_below f n) ((k : ℕ) → k < n → f k ≡ true)
unfolding each_below
all_below f n = Decides-below_and f (λ k. f k ≡ true) (each_below f) (λ k. (λ e. e, λ e. e)) refl (λ _. refl) n

pub each_at : (f : ℕ → Bool) (n : ℕ) → each_below f n ≡ true → (k : ℕ) → k < n → f k ≡ true
each_at f n = (all_below f n).0

pub each_from : (f : ℕ → Bool) (n : ℕ) → ((k : ℕ) → k < n → f k ≡ true) → each_below f n ≡ true
each_from f n = (all_below f n).1

-- all numbers that have P are below n
pub t_each : (f : ℕ → Bool) (n : ℕ) (P Q : ℕ → Type 0) → ((s : ℕ) → P s → s < n) → ((s : ℕ) → s < n → Decides (f s) (P s → Q s)) →
    Decides (each_below f n) ((s : ℕ) → P s → Q s)
t_each f n P Q bound t = let d = all_below f n in grind arith
