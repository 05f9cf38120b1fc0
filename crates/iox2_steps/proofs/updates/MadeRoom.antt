-- Room that two ports' lists got, in a domain's fields.
use Rattle.std.proofs.Common.{◌≡◌, ◌≤◌, ℕ, List, get_or, slice_set, refl, ap, sym, subst, ◌∙◌, le_refl}
use Rattle.std.proofs.lemmas.List.{set-get_or}
use Rattle.std.specs.declared.option.Option.{Option}
use Rattle.std.specs.declared.option.Option.TheVariants.{None, Some}
use Rattle.std.specs.declared.result.Result.{Result}
use Rattle.std.specs.declared.result.Result.TheVariants.{Ok, Err}
use Rattle.std.specs.Result.{OnOk}
use Rattle.std.specs.Option.{option_map, option_map_or}
use Rattle.slab.specs.Slab.{Slab}
use Rattle.iox2_connections.specs.Link.{Link}
use Rattle.iox2_domain.specs.Ports.{PublisherFields, SubscriberFields}
use Rattle.iox2_domain.specs.Fields.{Fields}
use Rattle.iox2_domain.specs.Updates.{changed_at, with_sender_room, with_receiver_rooms, sender_room, receiver_room}
use Rattle.iox2_domain.specs.Updates.{expired_room_at}
use Rattle.iox2_domain.specs.Connects.{MakesRoom}

-- what holds in any case holds of an `Ok`
pub always : {A B : Type 0} (r : Result A B) {P : Type 0} → P → OnOk r P
always (Ok x) p = p
always (Err e) p = tt

-- the publisher at a place of the list xs got more room for keys, and nothing else changed
pub record GetsSenderRoom (xs new : List (Option PublisherFields)) (at : ℕ) : Type 0 where
  pub same : new ≡ changed_at (with_sender_room (sender_room new at)) xs at
  pub grows : sender_room xs at ≤ sender_room new at

-- the subscriber at a place of the list ys got more room for keys and for expired ones, and nothing else changed
pub record GetsReceiverRoom (ys new : List (Option SubscriberFields)) (at : ℕ) : Type 0 where
  pub same : new ≡ changed_at (with_receiver_rooms (receiver_room new at) (expired_room_at new at)) ys at
  pub grows : receiver_room ys at ≤ receiver_room new at
  pub expired_grows : expired_room_at ys at ≤ expired_room_at new at

-- also where both lists have another name
pub gets-sender-room : (xs new xs' new' : List (Option PublisherFields)) (at : ℕ) → xs' ≡ xs → new ≡ new'
    → GetsSenderRoom xs' new' at → GetsSenderRoom xs new at
gets-sender-room xs new xs' new' at is new_is gets =
    subst (λ zs. GetsSenderRoom xs zs at) (sym new_is) (subst (λ zs. GetsSenderRoom zs new' at) is gets)

pub gets-receiver-room : (ys new ys' new' : List (Option SubscriberFields)) (at : ℕ) → ys' ≡ ys → new ≡ new'
    → GetsReceiverRoom ys' new' at → GetsReceiverRoom ys new at
gets-receiver-room ys new ys' new' at is new_is gets =
    subst (λ zs. GetsReceiverRoom ys zs at) (sym new_is) (subst (λ zs. GetsReceiverRoom zs new' at) is gets)

-- a list that stays has the room that it had
pub keeps-receiver-room : (ys : List (Option SubscriberFields)) (at : ℕ) → GetsReceiverRoom ys ys at
keeps-receiver-room ys at = record {
  same = sym (ap (slice_set ys at) (by (get_or ys at None)) ∙ set-get_or ys at None);
  grows = le_refl (receiver_room ys at);
  expired_grows = le_refl (expired_room_at ys at);
} where
  by : (o : Option SubscriberFields)
      → option_map (with_receiver_rooms (option_map_or (λ (y : SubscriberFields). y.key_room) o 0)
      (option_map_or (λ (y : SubscriberFields). y.expired_room) o 0)) o ≡ o
  by None = refl
  by (Some y) = refl

-- so nothing else changed in the fields, but connections
pub makes-room : {T U : Type 0} (old inside : Fields T U) → inside ≡ old
    → (i j : ℕ) (xs : List (Option PublisherFields)) (ys : List (Option SubscriberFields)) (connections : Slab Link)
    → GetsSenderRoom inside.publishers xs i → GetsReceiverRoom inside.subscribers ys j
    → MakesRoom old i j (record inside { publishers = xs; subscribers = ys; connections = connections })
makes-room old inside viewed i j xs ys connections sender receiver =
    subst (λ (f : Fields _ _). MakesRoom f i j
    (record inside { publishers = xs; subscribers = ys; connections = connections })) viewed (record {
      sender = sender.grows;
      receiver = receiver.grows;
      expired = receiver.expired_grows;
      fields =
          λ k. record inside { publishers = sender.same k; subscribers = receiver.same k; connections = connections };
    })
