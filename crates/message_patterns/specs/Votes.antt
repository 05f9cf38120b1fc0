-- Votes, and the middle one of three.
use Rattle.std.specs.Prelude.{ℕ, List, [], ◌∷◌, ◌+◌, ◌≡◌, ◌≢◌, ◌≤◌, ◌⊎◌, if◌then◌else◌, nat_le}
use Rattle.iox2_pubsub.specs.Domains.{Kept}
use Rattle.iox2_pubsub.specs.Shares.{AllFromEach, Share, share_of}
use Rattle.iox2_pubsub.specs.declared.subscriber.Subscriber.{Subscriber}

-- What a publisher has sent.
pub record Vote : Type 0 where
  pub publisher : ℕ
  pub value : ℕ

-- One of the votes, which has this value, is taken out, and these are left.
abbrev pub Picks : List Vote → (value : ℕ) → List Vote → Type 0
Picks [] value left = ⊥
Picks (vote ∷ votes) value left =
    ((value ≡ vote.value) × (left ≡ votes)) ⊎ ((others : List Vote) × Picks votes value others × (left ≡ vote ∷ others))

-- 1 if the first is no more than the second, else 0.
abbrev pub one_if_within : ℕ → ℕ → ℕ
one_if_within x y = if nat_le x y then 1 else 0

-- The number is one of the three. Two of them are no more than it, and two no less.
pub record IsMiddle (it a b c : ℕ) : Type 0 where
  pub among : (it ≡ a) ⊎ ((it ≡ b) ⊎ (it ≡ c))
  pub below : 2 ≤ one_if_within a it + one_if_within b it + one_if_within c it
  pub above : 2 ≤ one_if_within it a + one_if_within it b + one_if_within it c

-- ---- what waits

-- The vote of this publisher with this value.
abbrev pub vote_of : (publisher value : ℕ) → Vote
vote_of publisher value = record { publisher = publisher; value = value }

-- The publisher is none of these.
abbrev pub Apart : (publisher : ℕ) → List ℕ → Type 0
Apart publisher [] = Unit {0}
Apart publisher (other ∷ others) = (other ≢ publisher) × Apart publisher others

-- No two are the same.
abbrev pub AllApart : List ℕ → Type 0
AllApart [] = Unit {0}
AllApart (publisher ∷ publishers) = Apart publisher publishers × AllApart publishers

-- Each vote as what waits of its publisher.
abbrev pub shares_of : List Vote → List (Share ℕ)
shares_of [] = []
shares_of (vote ∷ votes) = share_of vote.publisher ((vote.value ∷ []) ∷ []) ∷ shares_of votes

-- These votes wait, each as the only message of its publisher, and nothing else.
abbrev pub VotesWait : {U F G : Type 0} → Kept ℕ U F G → Subscriber → List Vote → Type 0
VotesWait domain subscriber votes = AllFromEach domain subscriber (shares_of votes)
