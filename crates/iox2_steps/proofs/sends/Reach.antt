-- To which places a blocked delivery may go: all of its publisher's, or none behind the one at which it waits.
use Rattle.std.proofs.Common.{◌≡◌, ℕ, zero, suc, le_refl, get_or, ◌+◌, ◌-◌, ◌<◌, ◌≤◌, ◌||◌, Bool, true, false, cond}
use Rattle.std.proofs.Common.{List, [], ◌∷◌, drop, take, length, map, refl, ap, sym, ◌∙◌, arith, Option, None, Some}
use Rattle.std.proofs.lemmas.List.{drop-take, take-map, length-drop, length-take}
use Rattle.std.specs.declared.time.Duration.{Duration}
use Rattle.slab.specs.Slab.{Slab}
use Rattle.iox2_connections.specs.Link.{Link}
use Rattle.iox2_machine.specs.machine.Delivery.{Deliver, DeliveryEnd, Complete, Suspended, is_blocking, is_failed}
use Rattle.iox2_machine.specs.machine.Delivery.{accepted_count, no_time}
use Rattle.iox2_machine.specs.machine.Mailbox.{Mailbox}
use Rattle.iox2_machine.specs.machine.Records.{BlockedSend, Environment, Handler}
use Rattle.iox2_machine.specs.declared.backpressure.BackpressureAction.{BackpressureAction}
use Rattle.iox2_machine.specs.declared.backpressure.BackpressureStrategy.{BackpressureStrategy}
use Rattle.iox2_machine.specs.declared.service_config.ServiceConfig.{ServiceConfig}
use Rattle.iox2_connections.specs.Mailboxes.{sender_ends, subscriber_of_key}
use Rattle.iox2_connections.specs.declared.sender.Progress.{Progress}
use Rattle.iox2_laws.proofs.Cases.{by_bool}
use Rattle.iox2_laws.proofs.DeliveryLaws.{AreFrom, all_from}
use Rattle.iox2_domain.specs.declared.publisher_state.BlockedDelivery.{BlockedDelivery}
use Rattle.iox2_domain.specs.Fields.{within_reach}

-- the ends to which the keys in its reach lead are the ends in its reach
pub reach-ends : (connections : Slab Link) (b : BlockedDelivery) (keys : List (Option ℕ))
    → sender_ends connections (within_reach b keys) ≡ within_reach b (sender_ends connections keys)
reach-ends connections b keys = by b.is_alone where
  by : (o : Bool) → map (subscriber_of_key connections) (cond o (take ((b.progress).place + 1) keys) keys) ≡ cond o
      (take ((b.progress).place + 1) (map (subscriber_of_key connections) keys))
      (map (subscriber_of_key connections) keys)
  by true = sym (take-map (subscriber_of_key connections) ((b.progress).place + 1) keys)
  by false = refl

take-bound : (count : ℕ) (whole : List (Option ℕ)) → length (take count whole) ≤ count
take-bound count whole = omega (arith, length-take count whole)

-- those from a place on are some of its publisher's from there on
pub reach-from : (b : BlockedDelivery) (whole : List (Option ℕ)) (place : ℕ) → place ≤ length (within_reach b whole)
    → AreFrom whole (drop place (within_reach b whole)) place
reach-from b whole place = by b.is_alone where
  some : (more : ℕ) → place + more ≡ (b.progress).place + 1
      → AreFrom whole (drop place (take ((b.progress).place + 1) whole)) place
  some more e = (more, ap (λ (k : ℕ). drop place (take k whole)) (sym e) ∙ drop-take place more whole)

  by : (o : Bool) → place ≤ length (cond o (take ((b.progress).place + 1) whole) whole)
      → AreFrom whole (drop place (cond o (take ((b.progress).place + 1) whole) whole)) place
  by true low = some ((b.progress).place + 1 - place) (omega (arith, low, take-bound ((b.progress).place + 1) whole))
  by false low = all_from whole place

-- a key in its reach is its publisher's
pub reach-key : (b : BlockedDelivery) (keys : List (Option ℕ)) (i key : ℕ)
    → get_or (within_reach b keys) i None ≡ Some key → get_or keys i None ≡ Some key
reach-key b keys i key = by b.is_alone where
  taken : (count : ℕ) (xs : List (Option ℕ)) (i : ℕ) → get_or (take count xs) i None ≡ Some key
      → get_or xs i None ≡ Some key
  taken zero xs i e = absurd cc
  taken (suc count) [] i e = e
  taken (suc count) (x ∷ xs) zero e = e
  taken (suc count) (x ∷ xs) (suc i) e = taken count xs i e

  by : (o : Bool) → get_or (cond o (take ((b.progress).place + 1) keys) keys) i None ≡ Some key
      → get_or keys i None ≡ Some key
  by true e = taken ((b.progress).place + 1) keys i e
  by false e = e

-- it has no more keys than its publisher
pub reach-short : (b : BlockedDelivery) (keys : List (Option ℕ)) → length (within_reach b keys) ≤ length keys
reach-short b keys = by b.is_alone where
  by : (o : Bool) → length (cond o (take ((b.progress).place + 1) keys) keys) ≤ length keys
  by true = omega (arith, length-take ((b.progress).place + 1) keys)
  by false = le_refl (length keys)

module _ (environment : Environment) (c : ServiceConfig) (p : ℕ) (strategy : BackpressureStrategy)
    (handler : Option (Handler BackpressureAction)) (buffers : ℕ → Option ℕ) (n channel : ℕ) where
  -- a delivery stops at one of its places
  pub stops-within : (retries : ℕ) (elapsed : Duration) (place : ℕ) (ends : List (Option ℕ)) (count : ℕ)
      (has_failed : Bool) (boxes : ℕ → Mailbox) (how : DeliveryEnd) (boxes' : ℕ → Mailbox)
      → Deliver environment c p strategy handler buffers n channel retries elapsed place ends count has_failed boxes how
      boxes'
      → (b : BlockedSend) → how ≡ Suspended b → (place ≤ b.place) × (b.place < place + length ends)
  stops-within retries elapsed place [] count has_failed boxes how boxes' h b stops =
      absurd (let no : Complete count has_failed ≡ Suspended b = sym h.0 ∙ stops in cc)
  stops-within retries elapsed place (end ∷ rest) count has_failed boxes how boxes' h b stops =
      by_bool ((place ≤ b.place) × (b.place < place + length (end ∷ rest))) (is_blocking h.0) _ _ h.3
      (λ _ k. at (record {
        message = n;
        channel = channel;
        place = place;
        ends = end ∷ rest;
        retries = retries;
        count = count;
        has_failed = has_failed;
      }) refl (sym k.0 ∙ stops))
      (λ _ k.
      let later = stops-within 0 no_time (place + 1) rest (count + accepted_count h.0)
      (has_failed || is_failed h.0) h.1 how boxes' k b stops in
      (omega (arith, later.0), omega (arith, later.1)))
    where
      at : (v : BlockedSend) → v.place ≡ place → Suspended v ≡ Suspended b
          → (place ≤ b.place) × (b.place < place + length (end ∷ rest))
      at v here same = let is : v ≡ b = cc in let it : v.place ≡ b.place = ap (λ (w : BlockedSend). w.place) is in
          (omega (arith, it, here), omega (arith, it, here))

-- where it stops, its reach is what it was
pub reach-stays : (b : BlockedDelivery) (whole : List (Option ℕ)) (start : ℕ) (progress : Progress)
    → (b.progress).place ≤ start → start ≤ length (within_reach b whole)
    → start ≤ progress.place → progress.place < start + length (drop start (within_reach b whole))
    → within_reach (record b { progress = progress }) whole ≡ within_reach b whole
reach-stays b whole start progress later within above below = by b.is_alone refl where
  by : (o : Bool) → b.is_alone ≡ o
      → cond o (take (progress.place + 1) whole) whole ≡ cond o (take ((b.progress).place + 1) whole) whole
  by false e = refl
  by true e =
      let short : length (within_reach b whole) ≤ (b.progress).place + 1 = short_when e in
      let long : length (drop start (within_reach b whole)) ≡ length (within_reach b whole) - start =
      length-drop start (within_reach b whole) in
      let same : progress.place ≡ (b.progress).place = omega (arith, later, within, above, below, short, long) in
      ap (λ (k : ℕ). take (k + 1) whole) same
    where
      short_when : b.is_alone ≡ true → length (within_reach b whole) ≤ (b.progress).place + 1
      short_when alone = ap_short b.is_alone alone where
        ap_short : (o : Bool) → o ≡ true
            → length (cond o (take ((b.progress).place + 1) whole) whole) ≤ (b.progress).place + 1
        ap_short true _ = take-bound ((b.progress).place + 1) whole
        ap_short false clash = absurd cc
