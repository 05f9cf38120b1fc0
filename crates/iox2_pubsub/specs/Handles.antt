-- What handles name, in words: their fields are private.
use Rattle.std.specs.Prelude.{ℕ}
use Rattle.iox2_machine.specs.declared.backpressure.BackpressureStrategy.{BackpressureStrategy}
use Rattle.iox2_pubsub.specs.declared.blocked_send.BlockedSend.{BlockedSend}
use Rattle.iox2_pubsub.specs.declared.publisher.Publisher.{Publisher}
use Rattle.iox2_pubsub.specs.declared.subscriber.Subscriber.{Subscriber}
use Rattle.iox2_pubsub.specs.declared.sample_mut_uninit.SampleMutUninit.{SampleMutUninit}
use Rattle.iox2_pubsub.specs.declared.sample_mut.SampleMut.{SampleMut}
use Rattle.iox2_pubsub.specs.Sample.{Sample}
use Rattle.iox2_pubsub.specs.declared.slice.publisher.Publisher.{Publisher as SlicePublisher}
use Rattle.iox2_pubsub.specs.declared.slice.subscriber.Subscriber.{Subscriber as SliceSubscriber}
use Rattle.iox2_pubsub.specs.declared.slice.sample_mut_uninit.SampleMutUninit.{SampleMutUninit as SliceUninit}
use Rattle.iox2_pubsub.specs.declared.slice.sample_mut.SampleMut.{SampleMut as SliceMut}

-- ---- ports

-- The publisher's id.
abbrev pub publisher_id : Publisher → ℕ
publisher_id publisher = publisher.id

-- What the publisher does if a receiver is full.
abbrev pub strategy_of : Publisher → BackpressureStrategy
strategy_of publisher = publisher.strategy

-- How many elements a loan of the publisher has at most.
abbrev pub max_slice_len_of : Publisher → ℕ
max_slice_len_of publisher = publisher.initial_max_slice_len

-- The subscriber's id.
abbrev pub subscriber_id : Subscriber → ℕ
subscriber_id subscriber = subscriber.id

-- How many messages of one publisher may wait for the subscriber.
abbrev pub buffer_size_of : Subscriber → ℕ
buffer_size_of subscriber = subscriber.buffer_size

-- ---- loans

-- The number of the message that this loan becomes.
abbrev pub unwritten_number : SampleMutUninit → ℕ
unwritten_number loan = loan.loan.number

-- The id of the publisher that lent it.
abbrev pub unwritten_lender : SampleMutUninit → ℕ
unwritten_lender loan = loan.loan.publisher

-- The number of the message that this loan becomes.
abbrev pub written_number : SampleMut → ℕ
written_number loan = loan.loan.number

-- The id of the publisher that lent it.
abbrev pub written_lender : SampleMut → ℕ
written_lender loan = loan.loan.publisher

-- The id of the publisher whose send is blocked.
abbrev pub blocked_sender : BlockedSend → ℕ
blocked_sender blocked = blocked.loan.publisher

-- ---- samples

-- The number of the sample's message.
abbrev pub sample_number : Sample → ℕ
sample_number sample = sample.sample.number

-- The id of the subscriber that has the sample.
abbrev pub receiver_of : Sample → ℕ
receiver_of sample = sample.sample.subscriber

-- The id of the publisher that sent the sample's message.
abbrev pub origin_of : Sample → ℕ
origin_of sample = sample.origin

-- ---- handles of slices, each as the one of single values that it is

-- The same publisher.
abbrev pub as_publisher : SlicePublisher → Publisher
as_publisher publisher = publisher.publisher

-- The same subscriber.
abbrev pub as_subscriber : SliceSubscriber → Subscriber
as_subscriber subscriber = subscriber.subscriber

-- The same loan, not written.
abbrev pub as_unwritten : SliceUninit → SampleMutUninit
as_unwritten loan = loan.sample

-- The same loan, written.
abbrev pub as_written : SliceMut → SampleMut
as_written loan = loan.sample
