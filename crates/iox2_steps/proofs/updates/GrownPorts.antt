-- Two ports that get room for one connection more: what stands then, and what the fields are.
use Rattle.std.proofs.Common.{◌≡◌, ◌≤◌, ℕ, get_or, ap, subst, ◌∙◌, slice_set}
use Rattle.std.specs.declared.option.Option.TheVariants.{None, Some}
use Rattle.std.specs.Option.{option_map, option_map_or}
use Rattle.iox2_domain.specs.Ports.{PublisherFields, SubscriberFields}
use Rattle.iox2_domain.specs.Fields.{Fields}
use Rattle.iox2_domain.specs.Invariant.{IsDomain}
use Rattle.iox2_domain.specs.Updates.{with_sender_room, with_receiver_rooms, sender_room, receiver_room}
use Rattle.iox2_domain.specs.Updates.{expired_room_at}
use Rattle.iox2_domain.specs.Connects.{MakesRoom}
use Rattle.iox2_domain.proofs.lemmas.containers.ChangedRecords.{changed-here}
use Rattle.iox2_steps.proofs.updates.Grown.{grown, grown-agrees}

module _ {T U : Type 0} (f : Fields T U) (i j : ℕ) (x : PublisherFields) (y : SubscriberFields) (mid : Fields T U) where
  -- The ports' rooms in `mid`, which is otherwise the fields before, but for the connections.
  pub record HasGrown : Type 0 where
    pub keys : ℕ  -- the publisher's room for keys
    pub receiver_keys : ℕ  -- the subscriber's
    pub expired : ℕ  -- and its room for departed publishers
    pub more_keys : x.key_room ≤ keys
    pub more_receiver_keys : y.key_room ≤ receiver_keys
    pub more_expired : y.expired_room ≤ expired
    pub sound : IsDomain (grown f i j x y keys receiver_keys expired)
    pub publisher : get_or (grown f i j x y keys receiver_keys expired).publishers i None ≡ Some
        (with_sender_room keys x)
    pub subscriber : get_or (grown f i j x y keys receiver_keys expired).subscribers j None ≡ Some
        (with_receiver_rooms receiver_keys expired y)
    pub is : mid ≡ record (grown f i j x y keys receiver_keys expired) { connections = mid.connections }

  pub has-grown : IsDomain f → get_or f.publishers i None ≡ Some x → get_or f.subscribers j None ≡ Some y
      → MakesRoom f i j mid → HasGrown
  has-grown sound at_x at_y rooms =
      let n : ℕ = sender_room mid.publishers i in
      let m : ℕ = receiver_room mid.subscribers j in
      let e : ℕ = expired_room_at mid.subscribers j in
      let more_x : x.key_room ≤ n = subst (λ (k : ℕ). k ≤ n)
      (ap (λ o. option_map_or (λ (z : PublisherFields). z.key_room) o 0) at_x) rooms.sender in
      let more_y : y.key_room ≤ m = subst (λ (k : ℕ). k ≤ m)
      (ap (λ o. option_map_or (λ (z : SubscriberFields). z.key_room) o 0) at_y) rooms.receiver in
      let more_e : y.expired_room ≤ e = subst (λ (k : ℕ). k ≤ e)
      (ap (λ o. option_map_or (λ (z : SubscriberFields). z.expired_room) o 0) at_y) rooms.expired in
      record {
        keys = n;
        receiver_keys = m;
        expired = e;
        more_keys = more_x;
        more_receiver_keys = more_y;
        more_expired = more_e;
        sound = grown-agrees f i j x y n m e sound at_x at_y more_x more_y more_e;
        publisher = changed-here f.publishers i x (with_sender_room n x) at_x;
        subscriber = changed-here f.subscribers j y (with_receiver_rooms m e y) at_y;
        is = rooms.fields ∙ (λ k. record f {
          publishers = slice_set f.publishers i (option_map (with_sender_room n) (at_x k));
          subscribers = slice_set f.subscribers j (option_map (with_receiver_rooms m e) (at_y k));
          connections = mid.connections;
        });
      }
