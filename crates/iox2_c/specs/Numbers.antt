-- What the numbers that C keeps name.
use Rattle.std.specs.Prelude.{ℕ, ◌≡◌, ◌+◌, ◌*◌, ◌^◌}
use Rattle.iox2_machine.specs.declared.header.Header.{Header}
use Rattle.iox2_machine.specs.declared.key.Key.{Key}
use Rattle.iox2_c.specs.declared.numbers.Wide.{Wide}
use Rattle.iox2_c.specs.declared.numbers.PublisherNumbers.{PublisherNumbers}
use Rattle.iox2_c.specs.declared.numbers.SubscriberNumbers.{SubscriberNumbers}
use Rattle.iox2_c.specs.declared.numbers.LoanNumbers.{LoanNumbers}
use Rattle.iox2_c.specs.declared.numbers.SampleNumbers.{SampleNumbers}
use Rattle.iox2_c.specs.declared.numbers.HeaderNumbers.{HeaderNumbers}

-- The number of 128 bits.
abbrev pub wide : Wide → ℕ
wide it = it.low + it.high * 2 ^ 64

-- The key of the publisher with these numbers.
abbrev pub named_publisher : PublisherNumbers → Key
named_publisher it = record { service_id = wide it.service_id; port = wide it.id; message = 0 }

-- The key of the subscriber with these numbers.
abbrev pub named_subscriber : SubscriberNumbers → Key
named_subscriber it = record { service_id = wide it.service_id; port = wide it.id; message = 0 }

-- The key of the loan or the blocked send with these numbers.
abbrev pub named_loan : LoanNumbers → Key
named_loan it = record { service_id = wide it.service_id; port = wide it.publisher; message = wide it.number }

-- The key of the sample with these numbers.
abbrev pub named_sample : SampleNumbers → Key
named_sample it = record { service_id = wide it.service_id; port = wide it.subscriber; message = wide it.number }

-- The numbers say what the header does.
pub record IsHeader (header : Header) (it : HeaderNumbers) : Type 0 where
  pub node_id : wide it.node_id ≡ header.node_id
  pub publisher : wide it.publisher ≡ header.publisher_id
  pub elements : it.number_of_elements ≡ header.number_of_elements
