-- One link stands for each name. Numbers are handled from the last to the first; with the same top, lists get no longer on the way, so that equal names come one after the other.
use Rattle.std.specs.Prelude.{◌≡◌, ℕ, suc, ◌<◌, ◌≤◌, ◌≢◌, ◌↔◌, length, Some, None, Option}
use Rattle.model.specs.Meaning.{Graph}
use Rattle.model.specs.Walks.{closed, Share, Sound}
use Rattle.naming.specs.Searched.{Searched, Upward}
use Rattle.naming.specs.Crossing.{Outer}
use Rattle.naming.specs.Classes.{Numbered, top_at, length_at}

module _ (P : Searched) (link : ℕ → ℕ) where
  -- number j is handled; its list is longer than one
  abbrev pub Done : ℕ → ℕ → Type 0
  Done k j = (0 < j) × (k ≤ j) × (j < P.size)

  abbrev pub Long : ℕ → ℕ → Type 0
  Long k j = Done k j × (2 ≤ length_at P j)

  -- The numbers from k on are handled: `first` tells the link that stands for the name of each link, `latest` for each top the length of its latest list and the link that stands for it.
  pub record Firsts (k : ℕ) (first : ℕ → ℕ) (latest : ℕ → Option (ℕ × ℕ)) : Type 0 where
    -- a link outside the tree stands for itself, and for a tree link whose only bracket it is
    pub other : (e : ℕ) → e < P.many → Outer P link e → first e ≡ e
    pub lone : (j : ℕ) → Done k j → length_at P j ≡ 1 → first (link j) ≡ top_at P j
    -- longer lists: a tree link with the name stands for it
    pub named : (j : ℕ) → Long k j → (i : ℕ) × Done k i × (top_at P i ≡ top_at P j) × (length_at P i ≡ length_at P j) × (first (link j) ≡ link i)
    pub alike : (i j : ℕ) → Long k i → Long k j → top_at P i ≡ top_at P j → length_at P i ≡ length_at P j → first (link i) ≡ first (link j)
    -- no list of this top yet; or the latest, which no other is shorter than
    pub none : (x : ℕ) → latest x ≡ None → (j : ℕ) → Long k j → top_at P j ≢ x
    pub some :
        (x l f : ℕ) → latest x ≡ Some (l, f) →
        ((i : ℕ) × Long k i × (top_at P i ≡ x) × (length_at P i ≡ l) × (first (link i) ≡ f)) × ((j : ℕ) → Long k j → top_at P j ≡ x → l ≤ length_at P j)

  -- link v gets f, and all other links keep what they have
  abbrev pub Gets : (ℕ → ℕ) → ℕ → ℕ → (ℕ → ℕ) → Type 0
  Gets first v f first' = (first' (link v) ≡ f) × ((e : ℕ) → e ≢ link v → first' e ≡ first e)

  -- How it begins, and how number v is handled: its list has one bracket; or its name is that of the latest list of its top; or it is not.
  pub record FirstsTurn : Type 0 where
    pub start : (first : ℕ → ℕ) (latest : ℕ → Option (ℕ × ℕ)) → ((e : ℕ) → e < P.many → first e ≡ e) → ((x : ℕ) → latest x ≡ None) → Firsts P.size first latest
    pub single :
        (v : ℕ) → 0 < v → v < P.size → (first first' : ℕ → ℕ) (latest : ℕ → Option (ℕ × ℕ)) → Firsts (suc v) first latest →
        length_at P v ≡ 1 → Gets first v (top_at P v) first' → Firsts v first' latest
    pub again :
        (v f : ℕ) → 0 < v → v < P.size → (first first' : ℕ → ℕ) (latest : ℕ → Option (ℕ × ℕ)) → Firsts (suc v) first latest →
        2 ≤ length_at P v → latest (top_at P v) ≡ Some (length_at P v, f) → Gets first v f first' → Firsts v first' latest
    pub new :
        (v : ℕ) → 0 < v → v < P.size → (first first' : ℕ → ℕ) (latest latest' : ℕ → Option (ℕ × ℕ)) → Firsts (suc v) first latest →
        2 ≤ length_at P v → ((f : ℕ) → latest (top_at P v) ≢ Some (length_at P v, f)) → Gets first v (link v) first' →
        latest' (top_at P v) ≡ Some (length_at P v, link v) → ((x : ℕ) → x ≢ top_at P v → latest' x ≡ latest x) → Firsts v first' latest'

-- Theorem: so it goes on, if no two numbers have one tree link; and in the end two links share a class exactly when one link stands for both.
pub record FirstsStand : Type 0 where
  pub turn :
      (P : Searched) (link : ℕ → ℕ) → Upward P → ((i j : ℕ) → 0 < i → i < P.size → 0 < j → j < P.size → link i ≡ link j → i ≡ j) → FirstsTurn P link
  pub told :
      (g : Graph) → Sound g → (P : Searched) (number step link : ℕ → ℕ) → Numbered g P number step link →
      (first : ℕ → ℕ) (latest : ℕ → Option (ℕ × ℕ)) → Firsts P link 1 first latest →
      (a b : ℕ) → a < length (closed g) → b < length (closed g) → (Share (closed g) a b ↔ (first a ≡ first b))
