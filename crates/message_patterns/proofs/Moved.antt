-- What a relay has moved, turn by turn.
use Rattle.std.proofs.Common.{◌≡◌, ℕ, ◌+◌, ◌≤◌, List, [], ◌∷◌, ◌++◌, length, sym, ap, subst, ◌∙◌, arith}
use Rattle.std.proofs.lemmas.List.{append_assoc, append-nil, length-append, nil_from_length}
use Rattle.iox2_pubsub.specs.Domains.{Kept}
use Rattle.iox2_pubsub.specs.Live.{HasItsBuffer, UpToDateStay, WaitingStays, waiting}
use Rattle.iox2_pubsub.specs.declared.publisher.Publisher.{Publisher}
use Rattle.iox2_pubsub.specs.declared.subscriber.Subscriber.{Subscriber}
use Rattle.iox2_pubsub.proofs.ForCallers.{all_from_stays, numbers_for_fewer, singles_none}
use Rattle.message_patterns.specs.Moves.{HasMoved}
use Rattle.iox2_pubsub.specs.Payloads.{singles}
use Rattle.message_patterns.specs.Values.{CanSendValues, TakesMore, Wait}
use Rattle.message_patterns.proofs.Waits.{takes-fewer, takes-stay}

pub can-send-fewer : {T U F G : Type 0} (d : Kept T U F G) (publisher : Publisher) (more fewer : ℕ) → fewer ≤ more
    → CanSendValues d publisher more → CanSendValues d publisher fewer
can-send-fewer d publisher more fewer less can =
    record { loans = can.loans; numbers = numbers_for_fewer d more fewer less can.numbers }

module _ {U F G : Type 0} (from to from' to' : Kept ℕ U F G) (origin : ℕ) (receiver : Subscriber) (sender : ℕ)
    (reader : Subscriber) (values earlier : List ℕ) (count more : ℕ) where
  -- nothing moved
  pub moved-stays : HasMoved from to origin receiver sender reader values earlier count more → WaitingStays from from'
      → WaitingStays to to' → UpToDateStay to to'
      → ((s : Subscriber) → HasItsBuffer to s → HasItsBuffer to' s)
      → HasMoved from' to' origin receiver sender reader values earlier count more
  moved-stays has same same' stay buffers = record {
    moved = has.moved;
    left = has.left;
    split = has.split;
    counted = has.counted;
    waits = all_from_stays from from' same origin receiver (singles has.left) has.waits;
    sent = takes-stay to to' same' stay buffers sender reader (earlier ++ has.moved) more has.sent;
  }

  -- one more moved
  pub moved-more : (value : ℕ) → HasMoved from to origin receiver sender reader values earlier count (more + 1)
      → ((p : ℕ) (waited : List ℕ) → Wait from p receiver waited
      → (others : List ℕ) × (waited ≡ value ∷ others) × Wait from' p receiver others)
      → ((q : Subscriber) (before : List ℕ) (room : ℕ) → TakesMore to sender q before (room + 1)
      → TakesMore to' sender q (before ++ value ∷ []) room)
      → HasMoved from' to' origin receiver sender reader values earlier (count + 1) more
  moved-more value has first sent =
      let took = first origin has.left has.waits in
      record {
        moved = has.moved ++ value ∷ [];
        left = took.0;
        split =
            has.split ∙ ap (λ (l : List ℕ). has.moved ++ l) took.1 ∙ sym (append_assoc has.moved (value ∷ []) took.0);
        counted = let was : length has.moved ≡ count = has.counted in
            let longer : length (has.moved ++ value ∷ []) ≡ length has.moved + 1 =
            length-append has.moved (value ∷ []) in omega (arith, was, longer);
        waits = took.2;
        sent = subst (λ (l : List ℕ). TakesMore to' sender reader l more) (append_assoc earlier has.moved (value ∷ []))
            (sent reader (earlier ++ has.moved) more has.sent);
      }

  pub moved-fewer : (fewer : ℕ) → fewer ≤ more → HasMoved from to origin receiver sender reader values earlier count
      more → HasMoved from to origin receiver sender reader values earlier count fewer
  moved-fewer fewer less has = record {
    moved = has.moved;
    left = has.left;
    split = has.split;
    counted = has.counted;
    waits = has.waits;
    sent = takes-fewer to sender reader (earlier ++ has.moved) more fewer less has.sent;
  }

  -- all was moved
  pub moved-all : (has : HasMoved from to origin receiver sender reader values earlier count more)
      → waiting from receiver ≡ 0 → values ≡ has.moved
  moved-all has none =
      let nothing : has.left ≡ [] = singles_none has.left (sym (ap length (has.waits).all) ∙ none) in
      has.split ∙ ap (λ (l : List ℕ). has.moved ++ l) nothing ∙ append-nil has.moved

  -- as many as there were
  pub moved-as-many : (has : HasMoved from to origin receiver sender reader values earlier count more)
      → count ≡ length values → values ≡ has.moved
  moved-as-many has many =
      let split : length values ≡ length has.moved + length has.left =
      ap length has.split ∙ length-append has.moved has.left in
      let counted : length has.moved ≡ count = has.counted in
      let nothing : has.left ≡ [] = nil_from_length has.left (omega (arith, split, counted, many)) in
      has.split ∙ ap (λ (l : List ℕ). has.moved ++ l) nothing ∙ append-nil has.moved
