-- A delivery from the slots of a slab's connections, in the machine's words.
use Rattle.std.specs.Prelude.{◌≡◌, ◌==◌, ℕ, false, if◌then◌else◌, List, drop}
use Rattle.std.specs.declared.option.Option.{Option}
use Rattle.std.specs.declared.time.Duration.{Duration}
use Rattle.slab.specs.Slab.{Slab}
use Rattle.iox2_connections.specs.Link.{Link}
use Rattle.iox2_machine.specs.machine.Mailbox.{Mailbox}
use Rattle.iox2_machine.specs.machine.Records.{Environment}
use Rattle.iox2_machine.specs.machine.Delivery.{PutResult, Accepted, Skipped, Failed, Would_block, DeliveryEnd}
use Rattle.iox2_machine.specs.machine.Delivery.{Complete, Suspended, Decides, no_time, PutAtEnd, Deliver}
use Rattle.iox2_machine.specs.declared.service_config.ServiceConfig.{ServiceConfig}
use Rattle.iox2_connections.specs.declared.connection.PutOutcome.{PutOutcome}
use Rattle.iox2_connections.specs.declared.connection.PutOutcome.TheVariants.{Taken, Overwrote, Full}
use Rattle.iox2_connections.specs.Handlers.{marks_of}
use Rattle.iox2_connections.specs.Mailboxes.{mailboxes_of, subscriber_of_key, sender_ends}
use Rattle.iox2_connections.specs.Receivers.{taking_buffers}
use Rattle.iox2_machine.specs.declared.backpressure_handler.BackpressureHandler.{BackpressureHandler}
use Rattle.iox2_connections.specs.declared.sender.ReceiverDetails.{ReceiverDetails}
use Rattle.iox2_connections.specs.declared.sender.Progress.{Progress}
use Rattle.iox2_connections.specs.declared.sender.Delivery.{Delivery}
use Rattle.iox2_connections.specs.declared.sender.Reception.{Reception}
use Rattle.iox2_connections.specs.declared.sender.DeliveryOutcome.{DeliveryOutcome}

-- Every place remains.
abbrev pub begun : Progress
begun = record { place = 0; retries = 0; count = 0; has_failed = false }

-- The machine's result at one receiver.
abbrev pub result_of : Reception → PutResult
result_of Reception.Accepted = Accepted
result_of Reception.Skipped = Skipped
result_of Reception.Failed = Failed
result_of Reception.WouldBlock = Would_block

-- How a delivery of the message n into that channel at these ends is over, in the machine's words.
abbrev pub end_of : (n channel : ℕ) → List (Option ℕ) → DeliveryOutcome → DeliveryEnd
end_of n channel ends (DeliveryOutcome.Complete count has_failed) = Complete count has_failed
end_of n channel ends (DeliveryOutcome.Suspended at) =
    Suspended (record {
      message = n;
      channel = channel;
      place = at.place;
      ends = drop at.place ends;
      retries = at.retries;
      count = at.count;
      has_failed = at.has_failed;
    })

-- How often the receiver at a place was asked again, and the time since it was asked first: the one at which the
-- delivery is taken up was asked before, the others are asked anew.
abbrev pub retries_at : Delivery → (place : ℕ) → ℕ
retries_at d place = if place == (d.start).place then (d.start).retries else 0

abbrev pub elapsed_at : Delivery → (place : ℕ) → Duration
elapsed_at d place = if place == (d.start).place then d.elapsed else no_time

-- A publisher delivers under these settings, with this handler.
module _ {F : Type 0} (environment : Environment) (config : ServiceConfig) (d : Delivery)
    (handler : Option (BackpressureHandler F)) where
  -- What becomes of the message at the full receiver with that id and place.
  abbrev pub Answers : (place receiver : ℕ) → PutResult → Type 0
  Answers place receiver result =
      Decides environment d.publisher (marks_of handler) d.strategy
      (record {
        service_id = config.service_id;
        sender_port_id = d.publisher;
        receiver_port_id = receiver;
        retries = retries_at d place;
        elapsed_time = elapsed_at d place;
      }) result

  -- The result of a put into the connection of that receiver, by the put's outcome.
  abbrev pub ComesTo : (place receiver : ℕ) → PutOutcome → PutResult → Type 0
  ComesTo place receiver Taken result = result ≡ Accepted
  ComesTo place receiver (Overwrote oldest) result = result ≡ Accepted
  ComesTo place receiver Full result = Answers place receiver result

  module _ (buffers : ℕ → Option ℕ) where
    -- The machine's put of the message n at the end that stands at the place, in the publisher's mailboxes.
    abbrev pub PutsMessage : (n place : ℕ) → (end : Option ℕ) → (ℕ → Mailbox) → PutResult → (ℕ → Mailbox) → Type 0
    PutsMessage n place end boxes result boxes' =
        PutAtEnd environment config d.publisher d.strategy (marks_of handler) buffers n d.channel (retries_at d place)
        (elapsed_at d place) end boxes result boxes'

  module _ (receivers : List (Option ReceiverDetails)) where
    -- Whatever numbers the slots have, the slot's message is put at the end to which the key at the place leads.
    abbrev pub PutsSlot : (place : ℕ) → (key : Option ℕ) → Slab Link → Reception → Slab Link → Type 0
    PutsSlot place key old result new = (number : ℕ → ℕ → ℕ)
        → PutsMessage (taking_buffers old d.publisher d.channel receivers) (number d.publisher d.slot) place
        (subscriber_of_key old key) (mailboxes_of number old d.publisher) (result_of result)
        (mailboxes_of number new d.publisher)

    -- Whatever numbers the slots have, the slot's message is delivered to the ends at these keys from the place on at
    -- which the delivery is taken up, with what it came to so far.
    abbrev pub DeliversSlot : (keys : List (Option ℕ)) → Slab Link → DeliveryOutcome → Slab Link → Type 0
    DeliversSlot keys old how new = (number : ℕ → ℕ → ℕ)
        → Deliver environment config d.publisher d.strategy (marks_of handler)
        (taking_buffers old d.publisher d.channel receivers) (number d.publisher d.slot) d.channel
        (d.start).retries d.elapsed
        (d.start).place (drop (d.start).place (sender_ends old keys)) (d.start).count (d.start).has_failed
        (mailboxes_of number old d.publisher)
        (end_of (number d.publisher d.slot) d.channel (sender_ends old keys) how) (mailboxes_of number new d.publisher)
