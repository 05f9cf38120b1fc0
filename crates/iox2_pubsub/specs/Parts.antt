-- Handles that are plain numbers.
use Rattle.iox2_machine.specs.declared.key.Key.{Key}
use Rattle.iox2_pubsub.specs.declared.parts.PublisherParts.{PublisherParts}
use Rattle.iox2_pubsub.specs.declared.parts.SubscriberParts.{SubscriberParts}
use Rattle.iox2_pubsub.specs.declared.parts.LoanParts.{LoanParts}
use Rattle.iox2_pubsub.specs.declared.parts.SampleParts.{SampleParts}
use Rattle.std.specs.Prelude.{◌≡◌, ℕ, Bool, true, false}
use Rattle.std.specs.declared.option.Option.TheVariants.{Some}
use Rattle.iox2_machine.specs.machine.Records.{Loan, Publisher as MachinePublisher}
use Rattle.iox2_machine.specs.machine.State.{State}
use Rattle.iox2_domain.specs.Kept.{Kept, state_of}
use Rattle.iox2_slots.specs.declared.slots.mark.SlotMark.{SlotMark}
use Rattle.iox2_slots.specs.declared.slots.mark.SlotMark.TheVariants.{Written}
use Rattle.iox2_pubsub.specs.declared.blocked_send.BlockedSend.{BlockedSend}
use Rattle.iox2_pubsub.specs.declared.publisher.Publisher.{Publisher}
use Rattle.iox2_pubsub.specs.declared.subscriber.Subscriber.{Subscriber}
use Rattle.iox2_pubsub.specs.declared.sample_mut_uninit.SampleMutUninit.{SampleMutUninit}
use Rattle.iox2_pubsub.specs.declared.sample_mut.SampleMut.{SampleMut}
use Rattle.iox2_pubsub.specs.Sample.{Sample}

-- ---- what numbers name

-- The key of the publisher with these numbers.
abbrev pub publisher_named : PublisherParts → Key
publisher_named parts = record { service_id = parts.service_id; port = parts.id; message = 0 }

-- The key of the subscriber with these numbers.
abbrev pub subscriber_named : SubscriberParts → Key
subscriber_named parts = record { service_id = parts.service_id; port = parts.id; message = 0 }

-- The key of the loan or the blocked send with these numbers.
abbrev pub loan_named : LoanParts → Key
loan_named parts = record { service_id = parts.service_id; port = parts.publisher; message = parts.number }

-- The key of the sample with these numbers.
abbrev pub sample_named : SampleParts → Key
sample_named parts = record { service_id = parts.service_id; port = parts.subscriber; message = parts.number }

-- ---- the numbers of handles

-- The publisher's numbers.
abbrev pub publisher_parts : Publisher → PublisherParts
publisher_parts it = record {
  service_id = it.service_id;
  id = it.id;
  place = it.place;
  strategy = it.strategy;
  initial_max_slice_len = it.initial_max_slice_len;
}

-- The handle of a publisher that has these numbers.
abbrev pub publisher_of_parts : PublisherParts → Publisher
publisher_of_parts parts = record {
  service_id = parts.service_id;
  id = parts.id;
  place = parts.place;
  strategy = parts.strategy;
  initial_max_slice_len = parts.initial_max_slice_len;
}

-- The subscriber's numbers.
abbrev pub subscriber_parts : Subscriber → SubscriberParts
subscriber_parts it = record { service_id = it.service_id; id = it.id; place = it.place; buffer_size = it.buffer_size }

-- The handle of a subscriber that has these numbers.
abbrev pub subscriber_with : SubscriberParts → Subscriber
subscriber_with parts =
    record { service_id = parts.service_id; id = parts.id; place = parts.place; buffer_size = parts.buffer_size }

-- The numbers of a loan that isn't written.
abbrev pub unwritten_parts : SampleMutUninit → LoanParts
unwritten_parts it =
    record {
      service_id = it.service_id;
      publisher = it.loan.publisher;
      number = it.loan.number;
      place = it.loan.place;
      book = it.loan.book;
      slot = it.loan.slot;
    }

-- The numbers of a written loan.
abbrev pub written_parts : SampleMut → LoanParts
written_parts it =
    record {
      service_id = it.service_id;
      publisher = it.loan.publisher;
      number = it.loan.number;
      place = it.loan.place;
      book = it.loan.book;
      slot = it.loan.slot;
    }

-- The numbers of a blocked send.
abbrev pub blocked_parts : BlockedSend → LoanParts
blocked_parts it =
    record {
      service_id = it.service_id;
      publisher = it.loan.publisher;
      number = it.loan.number;
      place = it.loan.place;
      book = it.loan.book;
      slot = it.loan.slot;
    }

-- The sample's numbers.
abbrev pub sample_parts : Sample → SampleParts
sample_parts it =
    record {
      service_id = it.service_id;
      origin = it.origin;
      subscriber = it.sample.subscriber;
      number = it.sample.number;
      connection = it.sample.connection;
      book = it.sample.book;
      slot = it.sample.slot;
    }

-- ---- where they say

-- The publisher that lent the loan with these numbers wasn't closed, and stands at the place that they name.
unfoldable pub LenderIsPlaced : {T U F G : Type 0} → Kept T U F G → LoanParts → Type 0
LenderIsPlaced domain parts =
    (x : MachinePublisher) × ((state_of domain).publishers parts.publisher ≡ Some x) × (x.place ≡ parts.place)

-- ---- marks

-- Whether a slot's mark is that of a written loan.
abbrev pub written_mark : SlotMark → Bool
written_mark Written = true
written_mark _ = false

-- The publisher's loan n is out, and is written as this says.
abbrev pub HoldsMarked : {T U : Type 0} → State T U → (publisher n : ℕ) → (is_written : Bool) → Type 0
HoldsMarked {T} {U} s publisher n is_written =
    (l : Loan T U) × (s.loans n ≡ Some l) × (l.publisher ≡ publisher) × (l.is_written ≡ is_written)
