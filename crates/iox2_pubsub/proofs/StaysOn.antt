-- What stays of a domain over several items, and from one step to the next.
use Rattle.std.proofs.Common.{inl, inr, ◌≡◌, ◌≢◌, ℕ, Bool, true, false, List, sym, ◌∙◌, Option, None, Some}
use Rattle.std.proofs.lemmas.Bool.{cases_eq}
use Rattle.iox2_machine.specs.declared.key.Key.{Key}
use Rattle.iox2_domain.specs.Kept.{Kept}
use Rattle.iox2_pubsub.specs.Live.{sample_key, IsPublisherKey, IsSubscriberKey, IsLoanKey, IsSampleKey, IsBlockedKey}
use Rattle.iox2_pubsub.specs.Live.{IsFromOrigin, Item, No_item, A_publisher, A_loan, A_blocked_send, A_sent_loan}
use Rattle.iox2_pubsub.specs.Live.{A_sent_copy, Both, IsOtherPublisher, IsOtherSubscriber, IsOtherLoan, IsOtherSample}
use Rattle.iox2_pubsub.specs.Live.{IsUnblocked, IsUnwritten, IsWritten, IsOtherBlocked, StaysBut, Stays, IsNewIn}
use Rattle.iox2_pubsub.specs.Live.{blocked_key}
use Rattle.iox2_pubsub.proofs.StaysBut.{new-in, passed-parts, pending-parts}
use Rattle.iox2_pubsub.specs.Slices.{HasUnwrittenCells, HasValues}
use Rattle.iox2_pubsub.specs.Sample.{Sample}
use Rattle.iox2_pubsub.specs.declared.sample_mut.SampleMut.{SampleMut}
use Rattle.iox2_pubsub.specs.declared.sample_mut_uninit.SampleMutUninit.{SampleMutUninit}

-- ---- more than one item

module _ {T U F G : Type 0} (start : Kept T U F G) where
  -- two new items are new
  pub both-new : (first second : Item) → IsNewIn start first → IsNewIn start second → IsNewIn start (Both first second)
  both-new first second a b = record {
    publishers = λ key live. (a.publishers key live, b.publishers key live);
    subscribers = λ key live. (a.subscribers key live, b.subscribers key live);
    loans = λ key live. (a.loans key live, b.loans key live);
    unwritten_loans = λ it live. (a.unwritten_loans it live, b.unwritten_loans it live);
    written_loans = λ it live. (a.written_loans it live, b.written_loans it live);
    samples = λ key live. (a.samples key live, b.samples key live);
    live_samples = λ it live. (a.live_samples it live, b.live_samples it live);
    origins = λ it from. (a.origins it from, b.origins it from);
    cells = λ n cells has. (a.cells n cells has, b.cells n cells has);
    payloads = λ n values has. (a.payloads n values has, b.payloads n values has);
    unblocked = λ key free.
        (((a.unblocked key free).0, (b.unblocked key free).0), ((a.unblocked key free).1, (b.unblocked key free).1));
    blocked_sends = blocked;
    pending = λ it whose values has. blocked (blocked_key it) (pending-parts start it whose values has).0;
    passed = λ it whose has. blocked (blocked_key it) (passed-parts start it whose has).0;
  }
    where
      blocked : (key : Key) → IsBlockedKey start key
          → IsOtherPublisher (Both first second) key.port × IsOtherBlocked (Both first second) key.port
      blocked key live = (
        ((a.blocked_sends key live).0, (b.blocked_sends key live).0),
        ((a.blocked_sends key live).1, (b.blocked_sends key live).1),
      )

  -- a blocked send of a new publisher is new
  pub blocked-new : (p : ℕ) → IsNewIn start (A_publisher p) → IsNewIn start (A_blocked_send p)
  blocked-new p new =
      new-in start (A_blocked_send p) (λ key live. tt) (λ key live. tt) (λ n l out. tt) (λ p q n borrowed. tt)
      (λ key free. (tt, (new.unblocked key free).0)) (λ key live. (tt, (new.blocked_sends key live).0))

-- ---- parts of items

-- whatever is another than the second item is another than the first
pub record IsPartOf (first second : Item) : Type 0 where
  pub publishers : (p : ℕ) → IsOtherPublisher second p → IsOtherPublisher first p
  pub subscribers : (q : ℕ) → IsOtherSubscriber second q → IsOtherSubscriber first q
  pub loans : (n : ℕ) → IsOtherLoan second n → IsOtherLoan first n
  pub samples : (q n : ℕ) → IsOtherSample second q n → IsOtherSample first q n
  pub blocked_sends : (p : ℕ) → IsOtherBlocked second p → IsOtherBlocked first p

-- an item is a part of it and another
pub first-part : (first second : Item) → IsPartOf first (Both first second)
first-part first second = record {
  publishers = λ p other. other.0;
  subscribers = λ q other. other.0;
  loans = λ n other. other.0;
  samples = λ q n other. other.0;
  blocked_sends = λ p other. other.0;
}

pub second-part : (first second : Item) → IsPartOf second (Both first second)
second-part first second = record {
  publishers = λ p other. other.1;
  subscribers = λ q other. other.1;
  loans = λ n other. other.1;
  samples = λ q n other. other.1;
  blocked_sends = λ p other. other.1;
}

-- nor is a copy more than a blocked send
pub sent-copy-part : (p : ℕ) (is_blocked : Bool) → IsPartOf (A_sent_copy p is_blocked) (A_blocked_send p)
sent-copy-part p is_blocked = record {
  publishers = λ q other. tt;
  subscribers = λ q other. tt;
  loans = λ n other. tt;
  samples = λ q n other. tt;
  blocked_sends = λ q other. apart is_blocked q other;
}
  where
    apart : (is_blocked : Bool) (q : ℕ) → q ≢ p → IsOtherBlocked (A_sent_copy p is_blocked) q
    apart true q other = other
    apart false q other = tt

-- nothing is a part of each item
pub no-part : (item : Item) → IsPartOf No_item item
no-part item = record {
  publishers = λ p other. tt;
  subscribers = λ q other. tt;
  loans = λ n other. tt;
  samples = λ q n other. tt;
  blocked_sends = λ p other. tt;
}

-- a loan that is sent is no more than the loan and what a copy spends
pub sent-loan-copy-part : (n p : ℕ) (is_blocked : Bool)
    → IsPartOf (A_sent_loan n p is_blocked) (Both (A_loan n) (A_sent_copy p is_blocked))
sent-loan-copy-part n p is_blocked = record {
  publishers = λ p other. tt;
  subscribers = λ q other. tt;
  loans = λ k other. other.0;
  samples = λ q k other. tt;
  blocked_sends = λ r other. apart is_blocked r other.1;
}
  where
    apart : (is_blocked : Bool) (r : ℕ) → IsOtherBlocked (A_sent_copy p is_blocked) r
        → IsOtherBlocked (A_sent_loan n p is_blocked) r
    apart true r other = other
    apart false r other = tt

-- a loan that is sent is no more than the loan and a blocked send
pub sent-loan-part : (n p : ℕ) (is_blocked : Bool)
    → IsPartOf (A_sent_loan n p is_blocked) (Both (A_loan n) (A_blocked_send p))
sent-loan-part n p is_blocked = record {
  publishers = λ p other. tt;
  subscribers = λ q other. tt;
  loans = λ k other. other.0;
  samples = λ q k other. tt;
  blocked_sends = λ r other. apart is_blocked r other.1;
}
  where
    apart : (is_blocked : Bool) (r : ℕ) → r ≢ p → IsOtherBlocked (A_sent_loan n p is_blocked) r
    apart true r other = other
    apart false r other = tt

-- a part of what is new is new
pub part-new : {T U F G : Type 0} (start : Kept T U F G) (part whole : Item) → IsPartOf part whole → IsNewIn start whole
    → IsNewIn start part
part-new start part whole is new = record {
  publishers = λ key live. is.publishers key.port (new.publishers key live);
  subscribers = λ key live. is.subscribers key.port (new.subscribers key live);
  loans = λ key live. is.loans key.message (new.loans key live);
  unwritten_loans = λ it live. is.loans it.loan.number (new.unwritten_loans it live);
  written_loans = λ it live. is.loans it.loan.number (new.written_loans it live);
  samples = λ key live. is.samples key.port key.message (new.samples key live);
  live_samples = λ it live. is.samples it.sample.subscriber it.sample.number (new.live_samples it live);
  origins = λ it from. is.samples it.sample.subscriber it.sample.number (new.origins it from);
  cells = λ n cells has. is.loans n (new.cells n cells has);
  payloads = λ n values has. is.loans n (new.payloads n values has);
  unblocked = λ key free. let apart = new.unblocked key free in
      (is.publishers key.port apart.0, is.blocked_sends key.port apart.1);
  blocked_sends = λ key live. let apart = new.blocked_sends key live in
      (is.publishers key.port apart.0, is.blocked_sends key.port apart.1);
  pending = λ it whose values has. let apart = new.pending it whose values has in
      (is.publishers it.loan.publisher apart.0, is.blocked_sends it.loan.publisher apart.1);
  passed = λ it whose has. let apart = new.passed it whose has in
      (is.publishers it.loan.publisher apart.0, is.blocked_sends it.loan.publisher apart.1);
}

-- what stays but for an item stays but for what that is a part of
pub stays-but-whole : {T U F G : Type 0} (part whole : Item) → IsPartOf part whole → (old new : Kept T U F G)
    → StaysBut part old new → StaysBut whole old new
stays-but-whole part whole is old new stays = record {
  settings = stays.settings;
  consistent = stays.consistent;
  single_valued = stays.single_valued;
  holds_slices = stays.holds_slices;
  sliced = stays.sliced;
  publishers = λ key live other. stays.publishers key live (is.publishers key.port other);
  boxes = λ key live other. stays.boxes key live (is.publishers key.port other);
  degradation_boxes = λ key live other. stays.degradation_boxes key live (is.publishers key.port other);
  subscriber_boxes = λ key live other. stays.subscriber_boxes key live (is.subscribers key.port other);
  subscribers = λ key live other. stays.subscribers key live (is.subscribers key.port other);
  placed_publishers = stays.placed_publishers;
  placed_subscribers = stays.placed_subscribers;
  buffers = stays.buffers;
  loans = λ key live other. stays.loans key live (is.loans key.message other);
  unwritten_loans = λ it live other. stays.unwritten_loans it live (is.loans it.loan.number other);
  written_loans = λ it live other. stays.written_loans it live (is.loans it.loan.number other);
  samples = λ key live other. stays.samples key live (is.samples key.port key.message other);
  live_samples = λ it live other. stays.live_samples it live (is.samples it.sample.subscriber it.sample.number other);
  placed_messages = stays.placed_messages;
  origins = λ it from other. stays.origins it from (is.samples it.sample.subscriber it.sample.number other);
  unblocked = λ key free other. stays.unblocked key free (is.blocked_sends key.port other);
  never_wait = stays.never_wait;
  never_fail = stays.never_fail;
  blocked_sends = λ key live other alike.
      stays.blocked_sends key live (is.publishers key.port other) (is.blocked_sends key.port alike);
  pending = λ it whose values has other alike. stays.pending it whose values has (is.publishers it.loan.publisher other)
      (is.blocked_sends it.loan.publisher alike);
  passed = λ it whose has other alike.
      stays.passed it whose has (is.publishers it.loan.publisher other) (is.blocked_sends it.loan.publisher alike);
  loan_cells = λ n cells has other. stays.loan_cells n cells has (is.loans n other);
  loan_payloads = λ n values has other. stays.loan_payloads n values has (is.loans n other);
  loan_headers = λ key header live has other. stays.loan_headers key header live has (is.loans key.message other);
  loan_user_headers =
      λ key header live has other. stays.loan_user_headers key header live has (is.loans key.message other);
  sample_payloads =
      λ key values live has other. stays.sample_payloads key values live has (is.samples key.port key.message other);
  sample_headers =
      λ key header live has other. stays.sample_headers key header live has (is.samples key.port key.message other);
  sample_user_headers = λ key header live has other.
      stays.sample_user_headers key header live has (is.samples key.port key.message other);
}

-- what stays but for an item stays but for that and another
pub stays-but-more : {T U F G : Type 0} (first second : Item) (old new : Kept T U F G) → StaysBut first old new
    → StaysBut (Both first second) old new
stays-but-more first second = stays-but-whole first (Both first second) (first-part first second)

-- ---- one step after another

-- What was there at the start, and is another than the item, is another than what the first step spent, and than what
-- the second did.
record Spares {T U F G : Type 0} (start : Kept T U F G) (first second spent : Item) : Type 0 where
  publishers : (key : Key) → IsPublisherKey start key → IsOtherPublisher spent key.port
      → IsOtherPublisher first key.port × IsOtherPublisher second key.port
  subscribers : (key : Key) → IsSubscriberKey start key → IsOtherSubscriber spent key.port
      → IsOtherSubscriber first key.port × IsOtherSubscriber second key.port
  loans : (key : Key) → IsLoanKey start key → IsOtherLoan spent key.message
      → IsOtherLoan first key.message × IsOtherLoan second key.message
  unwritten_loans : (it : SampleMutUninit) → IsUnwritten start it → IsOtherLoan spent it.loan.number
      → IsOtherLoan first it.loan.number × IsOtherLoan second it.loan.number
  written_loans : (it : SampleMut) → IsWritten start it → IsOtherLoan spent it.loan.number
      → IsOtherLoan first it.loan.number × IsOtherLoan second it.loan.number
  samples : (key : Key) → IsSampleKey start key → IsOtherSample spent key.port key.message
      → IsOtherSample first key.port key.message × IsOtherSample second key.port key.message
  origins : (it : Sample) → IsFromOrigin start it → IsOtherSample spent it.sample.subscriber it.sample.number
      → IsOtherSample first it.sample.subscriber it.sample.number
      × IsOtherSample second it.sample.subscriber it.sample.number
  cells : (n : ℕ) (cells : List (Option T)) → HasUnwrittenCells start n cells → IsOtherLoan spent n
      → IsOtherLoan first n × IsOtherLoan second n
  payloads : (n : ℕ) (values : List T) → HasValues start n values → IsOtherLoan spent n
      → IsOtherLoan first n × IsOtherLoan second n
  blocked_sends : (key : Key) → IsBlockedKey start key → IsOtherPublisher spent key.port → IsOtherBlocked spent key.port
      → (IsOtherPublisher first key.port × IsOtherBlocked first key.port) × IsOtherPublisher second key.port
      × IsOtherBlocked second key.port

-- So all that stays, but which publishers have no blocked send.
stays-through : {T U F G : Type 0} (start old new : Kept T U F G) (first second spent : Item)
    → Spares start first second spent → StaysBut first start old → StaysBut second old new
    → ((key : Key) → IsUnblocked start key → IsOtherBlocked spent key.port → IsUnblocked new key)
    → StaysBut spent start new
stays-through start old new first second spent spares before next unblocked = record {
  settings = next.settings ∙ before.settings;
  consistent = λ was. next.consistent (before.consistent was);
  single_valued = λ was. next.single_valued (before.single_valued was);
  holds_slices = λ was. next.holds_slices (before.holds_slices was);
  sliced = λ was. next.sliced (before.sliced was);
  publishers = λ key live other. let apart = spares.publishers key live other in
      next.publishers key (before.publishers key live apart.0) apart.1;
  boxes = λ key live other. let apart = spares.publishers key live other in
      next.boxes key (before.publishers key live apart.0) apart.1 ∙ before.boxes key live apart.0;
  degradation_boxes = λ key live other.
      let apart = spares.publishers key live other in next.degradation_boxes key
      (before.publishers key live apart.0) apart.1 ∙ before.degradation_boxes key live apart.0;
  subscriber_boxes = λ key live other.
      let apart = spares.subscribers key live other in next.subscriber_boxes key
      (before.subscribers key live apart.0) apart.1 ∙ before.subscriber_boxes key live apart.0;
  subscribers = λ key live other. let apart = spares.subscribers key live other in
      next.subscribers key (before.subscribers key live apart.0) apart.1;
  placed_publishers = λ it was. next.placed_publishers it (before.placed_publishers it was);
  placed_subscribers = λ it was. next.placed_subscribers it (before.placed_subscribers it was);
  buffers = λ it was. next.buffers it (before.buffers it was);
  loans = λ key live other. let apart = spares.loans key live other in
      next.loans key (before.loans key live apart.0) apart.1;
  unwritten_loans = λ it live other. let apart = spares.unwritten_loans it live other in
      next.unwritten_loans it (before.unwritten_loans it live apart.0) apart.1;
  written_loans = λ it live other. let apart = spares.written_loans it live other in
      next.written_loans it (before.written_loans it live apart.0) apart.1;
  samples = λ key live other. let apart = spares.samples key live other in
      next.samples key (before.samples key live apart.0) apart.1;
  live_samples = λ it live other. let apart = spares.samples (sample_key it) live.there other in
      next.live_samples it (before.live_samples it live apart.0) apart.1;
  placed_messages =
      λ number book slot was. next.placed_messages number book slot (before.placed_messages number book slot was);
  origins = λ it from other. let apart = spares.origins it from other in
      next.origins it (before.origins it from apart.0) apart.1;
  unblocked = unblocked;
  never_wait = λ key was. next.never_wait key (before.never_wait key was);
  never_fail = λ publisher was. next.never_fail publisher (before.never_fail publisher was);
  blocked_sends = λ key live other alike.
      let apart = spares.blocked_sends key live other alike in
      next.blocked_sends key (before.blocked_sends key live (apart.0).0 (apart.0).1) apart.1 apart.2;
  pending = λ it whose values has other alike.
      let apart = spares.blocked_sends (blocked_key it) (pending-parts start it whose values has).0 other alike in
      next.pending it whose values (before.pending it whose values has (apart.0).0 (apart.0).1) apart.1 apart.2;
  passed = λ it whose has other alike.
      let apart = spares.blocked_sends (blocked_key it) (passed-parts start it whose has).0 other alike in
      next.passed it whose (before.passed it whose has (apart.0).0 (apart.0).1) apart.1 apart.2;
  loan_cells = λ n cells has other. let apart = spares.cells n cells has other in
      next.loan_cells n cells (before.loan_cells n cells has apart.0) apart.1;
  loan_payloads = λ n values has other. let apart = spares.payloads n values has other in
      next.loan_payloads n values (before.loan_payloads n values has apart.0) apart.1;
  loan_headers = λ key header live has other.
      let apart = spares.loans key live other in next.loan_headers key header (before.loans key live apart.0)
      (before.loan_headers key header live has apart.0) apart.1;
  loan_user_headers = λ key header live has other.
      let apart = spares.loans key live other in next.loan_user_headers key header (before.loans key live apart.0)
      (before.loan_user_headers key header live has apart.0) apart.1;
  sample_payloads = λ key values live has other.
      let apart = spares.samples key live other in next.sample_payloads key values (before.samples key live apart.0)
      (before.sample_payloads key values live has apart.0) apart.1;
  sample_headers = λ key header live has other.
      let apart = spares.samples key live other in next.sample_headers key header (before.samples key live apart.0)
      (before.sample_headers key header live has apart.0) apart.1;
  sample_user_headers = λ key header live has other.
      let apart = spares.samples key live other in next.sample_user_headers key header (before.samples key live apart.0)
      (before.sample_user_headers key header live has apart.0) apart.1;
}

-- Where what was spent says so alone, whatever there was at the start.
spares-alike : {T U F G : Type 0} (start : Kept T U F G) (first second spent : Item)
    → ((id : ℕ) → IsOtherPublisher spent id → IsOtherPublisher first id × IsOtherPublisher second id)
    → ((id : ℕ) → IsOtherSubscriber spent id → IsOtherSubscriber first id × IsOtherSubscriber second id)
    → ((n : ℕ) → IsOtherLoan spent n → IsOtherLoan first n × IsOtherLoan second n)
    → ((id n : ℕ) → IsOtherSample spent id n → IsOtherSample first id n × IsOtherSample second id n)
    → ((key : Key) → IsBlockedKey start key → IsOtherPublisher spent key.port → IsOtherBlocked spent key.port
    → (IsOtherPublisher first key.port × IsOtherBlocked first key.port) × IsOtherPublisher second key.port
    × IsOtherBlocked second key.port) → Spares start first second spent
spares-alike start first second spent publishers subscribers loans samples blocked = record {
  publishers = λ key _. publishers key.port;
  subscribers = λ key _. subscribers key.port;
  loans = λ key _. loans key.message;
  unwritten_loans = λ it _. loans it.loan.number;
  written_loans = λ it _. loans it.loan.number;
  samples = λ key _. samples key.port key.message;
  origins = λ it _. samples it.sample.subscriber it.sample.number;
  cells = λ n _ _. loans n;
  payloads = λ n _ _. loans n;
  blocked_sends = blocked;
}

-- what stays twice but for an item stays but for it
pub stays-twice : {T U F G : Type 0} (spent : Item) (start old new : Kept T U F G) → StaysBut spent start old
    → StaysBut spent old new → StaysBut spent start new
stays-twice spent start old new before next =
    stays-through start old new spent spent spent spared before next
    (λ key free other. next.unblocked key (before.unblocked key free other) other)
  where
    spared : Spares start spent spent spent
    spared = spares-alike start spent spent spent (λ id other. (other, other)) (λ id other. (other, other))
        (λ n other. (other, other)) (λ id n other. (other, other))
        (λ key live other alike. ((other, alike), other, alike))

module _ {T U F G : Type 0} (start old : Kept T U F G) (before : Stays start old) (item : Item) where
  -- what is new later was new before
  pub new-since : IsNewIn old item → IsNewIn start item
  new-since new = record {
    publishers = λ key live. new.publishers key (before.publishers key live tt);
    subscribers = λ key live. new.subscribers key (before.subscribers key live tt);
    loans = λ key live. new.loans key (before.loans key live tt);
    unwritten_loans = λ it live. new.unwritten_loans it (before.unwritten_loans it live tt);
    written_loans = λ it live. new.written_loans it (before.written_loans it live tt);
    samples = λ key live. new.samples key (before.samples key live tt);
    live_samples = λ it live. new.live_samples it (before.live_samples it live tt);
    origins = λ it from. new.origins it (before.origins it from tt);
    cells = λ n cells has. new.cells n cells (before.loan_cells n cells has tt);
    payloads = λ n values has. new.payloads n values (before.loan_payloads n values has tt);
    unblocked = λ key free. new.unblocked key (before.unblocked key free tt);
    blocked_sends = λ key live. new.blocked_sends key (before.blocked_sends key live tt tt);
    pending = λ it whose values has. new.pending it whose values (before.pending it whose values has tt tt);
    passed = λ it whose has. new.passed it whose (before.passed it whose has tt tt);
  }

  -- where an item that was new is spent, all that was there before stays but for what is spent beside it
  pub stays-on-but : (spent : Item) (new : Kept T U F G) → IsNewIn start item → StaysBut (Both item spent) old new
      → StaysBut spent start new
  stays-on-but spent new apart next =
      stays-through start old new No_item (Both item spent) spent spared before next
      (λ key free other. next.unblocked key (before.unblocked key free tt) ((apart.unblocked key free).1, other))
    where
      spared : Spares start No_item (Both item spent) spent
      spared = record {
        publishers = λ key live other. (tt, (apart.publishers key live, other));
        subscribers = λ key live other. (tt, (apart.subscribers key live, other));
        loans = λ key live other. (tt, (apart.loans key live, other));
        unwritten_loans = λ it live other. (tt, (apart.unwritten_loans it live, other));
        written_loans = λ it live other. (tt, (apart.written_loans it live, other));
        samples = λ key live other. (tt, (apart.samples key live, other));
        origins = λ it from other. (tt, (apart.origins it from, other));
        cells = λ n cells has other. (tt, (apart.cells n cells has, other));
        payloads = λ n values has other. (tt, (apart.payloads n values has, other));
        blocked_sends = λ key live other alike. let new = apart.blocked_sends key live in
            ((tt, tt), (new.0, other), (new.1, alike));
      }

  -- and where nothing is, all that was there before stays
  pub stays-on : (new : Kept T U F G) → IsNewIn start item → StaysBut item old new → Stays start new
  stays-on new apart next = stays-on-but No_item new apart (stays-but-more item No_item old new next)

-- a new loan that is written and sent leaves what a copy leaves
pub copy-stays : {T U F G : Type 0} (start lent mid new : Kept T U F G) (n p : ℕ) (is_blocked : Bool) → Stays start lent
    → IsNewIn start (A_loan n) → StaysBut (A_loan n) lent mid → StaysBut (A_sent_loan n p is_blocked) mid new
    → StaysBut (A_sent_copy p is_blocked) start new
copy-stays start lent mid new n p is_blocked before is_new wrote sent =
    let both : Item = Both (A_loan n) (A_sent_copy p is_blocked) in
    stays-on-but start lent before (A_loan n) (A_sent_copy p is_blocked) new is_new
    (stays-twice both lent mid new (stays-but-more (A_loan n) (A_sent_copy p is_blocked) lent mid wrote)
    (stays-but-whole (A_sent_loan n p is_blocked) both (sent-loan-copy-part n p is_blocked) mid new sent))

-- ---- a send that blocked has ended

-- a publisher with a blocked send isn't unblocked
waits-not : {T U F G : Type 0} (kept : Kept T U F G) (key : Key) → IsBlockedKey kept key → IsUnblocked kept key → ⊥
unfolding IsBlockedKey IsUnblocked
waits-not kept key live free = let no : None ≡ Some (live.1).1 = sym (free.1 (live.1).0 (live.1).2) ∙ (live.1).3 in
    absurd cc

-- What stood before a send of the publisher blocked, none of whose sends was blocked, stands when the blocked send has
-- ended.
pub stays-since-block : {T U F G : Type 0} (p : ℕ) (start old new : Kept T U F G)
    → ((key : Key) → key.port ≡ p → IsUnblocked start key) → StaysBut (A_blocked_send p) start old
    → StaysBut (A_blocked_send p) old new → ((key : Key) → key.port ≡ p → IsUnblocked new key) → Stays start new
stays-since-block {T} {U} {F} {G} p start old new was before next frees =
    stays-through start old new (A_blocked_send p) (A_blocked_send p) No_item spared before next
    (λ key free other. unblocked key free)
  where
    unblocked : (key : Key) → IsUnblocked start key → IsUnblocked new key
    unblocked key free = elim (cases_eq key.port p) [
      | inl its ↦ frees key its
      | inr away ↦ next.unblocked key (before.unblocked key free away) away
    ]

    away : (key : Key) → IsBlockedKey start key → key.port ≢ p
    away key live its = waits-not start key live (was key its)

    spared : Spares start (A_blocked_send p) (A_blocked_send p) No_item
    spared = spares-alike start (A_blocked_send p) (A_blocked_send p) No_item (λ id other. (tt, tt))
        (λ id other. (tt, tt)) (λ n other. (tt, tt)) (λ id n other. (tt, tt))
        (λ key live other alike. ((tt, away key live), tt, away key live))
