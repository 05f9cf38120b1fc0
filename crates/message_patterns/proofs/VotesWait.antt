-- Votes that wait, each the only message of its publisher.
use Rattle.std.proofs.Common.{◌≡◌, ℕ, suc, List, [], ◌∷◌, refl, ap, subst, ◌∙◌, inl, inr, ⊎_elim}
use Rattle.iox2_pubsub.specs.Domains.{Kept}
use Rattle.iox2_pubsub.specs.Live.{IsConsistent, payloads_from, waiting}
use Rattle.iox2_pubsub.specs.Shares.{AllFromEach, Share, TakesFrom, share_of, without_empty}
use Rattle.iox2_pubsub.specs.declared.subscriber.Subscriber.{Subscriber}
use Rattle.iox2_pubsub.proofs.ForCallers.{share_taken, some_shares}
use Rattle.message_patterns.specs.Votes.{Picks, Vote, VotesWait, shares_of}

-- no vote is empty
all-some : (votes : List Vote) → without_empty (shares_of votes) ≡ shares_of votes
all-some [] = refl
all-some (vote ∷ votes) =
    ap (λ (others : List (Share ℕ)). share_of vote.publisher ((vote.value ∷ []) ∷ []) ∷ others) (all-some votes)

-- What a pick leaves.
record Picked (votes : List Vote) (value : ℕ) (shares : List (Share ℕ)) : Type 0 where
  left : List Vote
  picks : Picks votes value left
  same : without_empty shares ≡ shares_of left

picked : (votes : List Vote) (origin value : ℕ) (shares : List (Share ℕ))
    → TakesFrom (shares_of votes) origin (value ∷ []) shares → Picked votes value shares
picked [] origin value shares takes = absurd takes
picked (vote ∷ votes) origin value shares takes =
    ⊎_elim
    (λ it.
    let is : (vote.value ∷ []) ∷ [] ≡ (value ∷ []) ∷ it.0 = it.2 in
    let equal : value ≡ vote.value = cc in
    let none : it.0 ≡ [] = cc in
    record {
      left = votes;
      picks = inl (equal, refl);
      same = ap without_empty it.3
          ∙ ap (λ (rest : List (List ℕ)). without_empty (share_of origin rest ∷ shares_of votes)) none ∙ all-some votes;
    })
    (λ it.
    let rest = picked votes origin value it.0 it.1 in
    record {
      left = vote ∷ rest.left;
      picks = inr (rest.left, rest.picks, refl);
      same = ap without_empty it.2
          ∙ ap (λ (others : List (Share ℕ)). share_of vote.publisher ((vote.value ∷ []) ∷ []) ∷ others) rest.same;
    })
    takes

-- a vote is taken out
pub take-vote : {U F G : Type 0} (old new : Kept ℕ U F G) (subscriber : Subscriber) (origin value : ℕ)
    → payloads_from old origin subscriber ≡ (value ∷ []) ∷ payloads_from new origin subscriber
    → ((other : ℕ) → (other ≡ origin → ⊥) → payloads_from new other subscriber ≡ payloads_from old other subscriber)
    → IsConsistent old → suc (waiting new subscriber) ≡ waiting old subscriber
    → (votes : List Vote) → VotesWait old subscriber votes
    → (left : List Vote) × Picks votes value left × VotesWait new subscriber left
take-vote old new subscriber origin value first others consistent one votes wait =
    let took = share_taken old new subscriber origin (value ∷ []) first others consistent one (shares_of votes) wait in
    let pick = picked votes origin value took.0 took.1 in
    (pick.left, pick.picks, subst (AllFromEach new subscriber) pick.same (some_shares new subscriber took.0 took.2))
