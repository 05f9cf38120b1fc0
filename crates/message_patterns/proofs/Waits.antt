-- What waits after a call.
use Rattle.std.proofs.Common.{◌≡◌, ℕ, ◌+◌, ◌<◌, ◌≤◌, List, [], ◌∷◌, ◌++◌, length, take, get_or, add-one, sym, ap, subst}
use Rattle.std.proofs.Common.{◌∙◌, arith}
use Rattle.std.proofs.lemmas.List.{append_assoc, length-append}
use Rattle.std.proofs.lemmas.Grind.{common_steps}
use Rattle.std.proofs.Math.Seq.{take-suc}
use Rattle.iox2_pubsub.specs.Domains.{Kept}
use Rattle.iox2_pubsub.specs.Live.{AllFrom, HasItsBuffer, UpToDateStay, WaitingStays}
use Rattle.iox2_pubsub.specs.declared.subscriber.Subscriber.{Subscriber}
use Rattle.iox2_pubsub.proofs.ForCallers.{all_from_stays, length_singles, singles_append}
use Rattle.iox2_pubsub.specs.Payloads.{singles}
use Rattle.message_patterns.specs.Values.{TakesMore}

module _ {U F G : Type 0} where
  pub takes-stay : (old new : Kept ℕ U F G) → WaitingStays old new → UpToDateStay old new
      → ((s : Subscriber) → HasItsBuffer old s → HasItsBuffer new s)
      → (p : ℕ) (q : Subscriber) (values : List ℕ) (more : ℕ) → TakesMore old p q values more
      → TakesMore new p q values more
  takes-stay old new same stay buffers p q values more takes = record {
    wait = all_from_stays old new same p q (singles values) takes.wait;
    connected = stay.connections p q takes.connected;
    buffer = buffers q takes.buffer;
    room = takes.room;
  }

  pub takes-fewer : (d : Kept ℕ U F G) (p : ℕ) (q : Subscriber) (values : List ℕ) (more fewer : ℕ) → fewer ≤ more
      → TakesMore d p q values more → TakesMore d p q values fewer
  takes-fewer d p q values more fewer less takes = record {
    wait = takes.wait;
    connected = takes.connected;
    buffer = takes.buffer;
    room = let room : length values + more ≤ q.buffer_size = takes.room in omega (arith, room, less);
  }

  pub room-for-one : (d : Kept ℕ U F G) (p : ℕ) (q : Subscriber) (values : List ℕ) (more : ℕ)
      → TakesMore d p q values (more + 1) → length (singles values) < q.buffer_size
  room-for-one d p q values more takes =
      let room : length values + (more + 1) ≤ q.buffer_size = takes.room in
      let same : length (singles values) ≡ length values = length_singles values in
      omega (arith, room, same)

  pub takes-next : (old new : Kept ℕ U F G) (p : ℕ) (q : Subscriber) (earlier : List ℕ) (value more : ℕ)
      → TakesMore old p q earlier (more + 1)
      → AllFrom new p q (singles earlier ++ (value ∷ []) ∷ []) → UpToDateStay old new
      → ((s : Subscriber) → HasItsBuffer old s → HasItsBuffer new s) → TakesMore new p q (earlier ++ value ∷ []) more
  takes-next old new p q earlier value more takes joined stay buffers = record {
    wait = subst (λ (l : List (List ℕ)). AllFrom new p q l) (sym (singles_append earlier value)) joined;
    connected = stay.connections p q takes.connected;
    buffer = buffers q takes.buffer;
    room =
        let room : length earlier + (more + 1) ≤ q.buffer_size = takes.room in
        let longer : length (earlier ++ value ∷ []) ≡ length earlier + 1 = length-append earlier (value ∷ []) in
        omega (arith, room, longer);
  }

module _ {U F G : Type 0} (d : Kept ℕ U F G) (p : ℕ) (q : Subscriber) (earlier values : List ℕ) (i more : ℕ) where
  -- one more of a list
  pub takes-taken : i < length values → TakesMore d p q ((earlier ++ take i values) ++ get_or values i 0 ∷ []) more
      → TakesMore d p q (earlier ++ take (i + 1) values) more
  takes-taken low takes =
      let longer : take (i + 1) values ≡ take i values ++ get_or values i 0 ∷ [] =
      rw add-one (take-suc values i 0 low) in
      subst (λ (l : List ℕ). TakesMore d p q l more) (append_assoc earlier (take i values) (get_or values i 0 ∷ [])
      ∙ ap (λ (l : List ℕ). earlier ++ l) (sym longer)) takes

  -- and all of it
  pub takes-all : length values ≤ i → TakesMore d p q (earlier ++ take i values) more
      → TakesMore d p q (earlier ++ values) more
  takes-all all takes = subst (λ (l : List ℕ). TakesMore d p q (earlier ++ l) more) (grind (arith, common_steps)) takes
