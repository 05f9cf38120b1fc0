-- A publisher enters a domain, with its book and the contents of its slots.
use Rattle.std.specs.Prelude.{◌≡◌, ◌==◌, ℕ, Bool, true, false, if◌then◌else◌, nat_lt, List, [], length, replicate}
use Rattle.std.specs.List.{All}
use Rattle.std.specs.declared.option.Option.{Option}
use Rattle.std.specs.declared.option.Option.TheVariants.{None}
use Rattle.std.specs.declared.result.Result.{Result}
use Rattle.std.specs.declared.result.Result.TheVariants.{Ok, Err}
use Rattle.circular_buffer.specs.Buffer.{Buffer}
use Rattle.iox2_machine.specs.machine.Limits.{last_number}
use Rattle.iox2_machine.specs.machine.Records.{PublisherSettings, Handler}
use Rattle.iox2_slots.specs.SlotBook.{Book, IsAligned}
use Rattle.iox2_contents.specs.SlotContents.{ContentState, lists_for}
use Rattle.iox2_machine.specs.declared.allocation.AllocationStrategy.{AllocationStrategy}
use Rattle.iox2_machine.specs.declared.allocation.AllocationStrategy.TheVariants.{Static}
use Rattle.iox2_machine.specs.declared.backpressure.BackpressureAction.{BackpressureAction}
use Rattle.iox2_machine.specs.declared.backpressure.BackpressureStrategy.{BackpressureStrategy}
use Rattle.iox2_machine.specs.declared.degradation.DegradationAction.TheVariants.{Warn}
use Rattle.iox2_machine.specs.declared.errors.PublisherCreateError.{PublisherCreateError}
use Rattle.iox2_machine.specs.declared.errors.PublisherCreateError.TheVariants.{UnableToCreatePortTag}
use Rattle.iox2_machine.specs.declared.errors.PublisherCreateError.TheVariants.{ExceedsMaxSupportedPublishers}
use Rattle.iox2_domain.specs.Handlers.{handler_of}
use Rattle.iox2_domain.specs.declared.handlers.HandlerMark.TheVariants as mark
use Rattle.iox2_domain.specs.declared.options.PublisherOptions.{PublisherOptions}
use Rattle.iox2_domain.specs.Ports.{PublisherFields}
use Rattle.iox2_domain.specs.Fields.{Fields}
use Rattle.iox2_domain.specs.Placed.{lowest_empty}

-- The settings of a publisher that is made with these options, has this handler of full buffers, and one segment.
abbrev pub static_publisher : PublisherOptions → Option (Handler BackpressureAction) → PublisherSettings
static_publisher given handler = record {
  max_loaned_samples = given.max_loaned_samples;
  backpressure_strategy = given.strategy;
  allocation_strategy = Static;
  initial_max_slice_len = given.initial_max_slice_len;
  asked_slots = None;
  degradation_handler = handler_of given.degradation;
  backpressure_handler = handler;
}

-- The same of one whose memory grows so.
abbrev pub growing_publisher : PublisherOptions → Option (Handler BackpressureAction) → AllocationStrategy
    → PublisherSettings
growing_publisher given handler allocation =
    record (static_publisher given handler) { allocation_strategy = allocation }

-- Those of one without handlers, which warns where it can't make a connection.
abbrev pub plain_publisher : (max_loaned_samples : ℕ) → BackpressureStrategy → (initial_max_slice_len : ℕ)
    → PublisherSettings
plain_publisher max_loaned_samples strategy initial_max_slice_len =
    static_publisher (record {
      max_loaned_samples = max_loaned_samples;
      strategy = strategy;
      degradation = mark.Fixed Warn;
      initial_max_slice_len = initial_max_slice_len;
    }) None

-- A publisher that was just made with these settings. It has `slots` slots, and room for `loan_room` loans and
-- `key_room` connections.
abbrev pub entering_publisher : (id place book : ℕ) → PublisherSettings
    → (slots loan_room : ℕ) (history : Buffer ℕ) (key_room : ℕ) → PublisherFields
entering_publisher id place book given slots loan_room history key_room = record {
  id = id;
  place = place;
  book = book;
  max_loaned_samples = given.max_loaned_samples;
  slots = slots;
  strategy = given.backpressure_strategy;
  backpressure_handler = given.backpressure_handler;
  degradation_handler = given.degradation_handler;
  allocation = given.allocation_strategy;
  initial_max_slice_len = given.initial_max_slice_len;
  longest_granted = 0;
  segments = 1;
  segment_start = 0;
  segment_length = given.initial_max_slice_len;
  loans = [];
  loan_room = loan_room;
  history = history;
  keys = [];
  key_room = key_room;
  is_due = true;
  blocked = None;
}

module _ {T U : Type 0} where
  -- The lowest free place for a publisher, or the first reason to refuse it.
  abbrev pub place_for_publisher : Fields T U → Result ℕ PublisherCreateError
  place_for_publisher f =
      if f.next_port == last_number then Err UnableToCreatePortTag
      else if nat_lt (lowest_empty f.publishers) (f.config).max_publishers then Ok
      (lowest_empty f.publishers) else Err ExceedsMaxSupportedPublishers

-- A book of the publisher with `slots` slots, which names its node. None of the slots is in use. Their contents are
-- each without cells and with room for `room` elements, and lie in lists if `in_lists` says so. The cells can then be
-- handed out for `lists` loans at a time.
pub record IsNewSegment {T U : Type 0} (book : Book) (contents : List (ContentState T U))
    (node publisher slots room : ℕ) (in_lists : Bool) (lists : ℕ) : Type 0 where
  pub is_its : book.publisher ≡ publisher
  pub names_node : book.node ≡ node
  pub unused : book.holders ≡ replicate slots 0
  pub aligned : IsAligned book
  pub contents_length : length contents ≡ slots
  pub contents_room : All (λ content. content.room ≡ room) contents
  pub contents_form : in_lists ≡ true → All (λ content. content.is_in_place ≡ false) contents
  pub contents_closed : All (λ content. content.cells ≡ []) contents
  pub contents_lists : All (λ content. content.lists ≡ lists_for in_lists lists) contents
