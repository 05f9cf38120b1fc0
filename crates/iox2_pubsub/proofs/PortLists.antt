-- Laws that callers' proofs may cite: several ports that are closed, as one item.
use Rattle.std.proofs.Common.{◌≡◌, ℕ, false, List, [], ◌∷◌, eqb, sym, ◌∙◌}
use Rattle.std.proofs.lemmas.Bool.{eq-eqb, or_parts, true≢false}
use Rattle.iox2_machine.specs.machine.Numbers.{contains}
use Rattle.iox2_domain.specs.Kept.{Kept}
use Rattle.iox2_pubsub.specs.AllSubscribers.{AreLiveKeys, IsNotAmong}
use Rattle.iox2_pubsub.specs.Live.{A_publisher, A_subscriber, Both, IsNewIn, IsOtherBlocked, IsOtherLoan}
use Rattle.iox2_pubsub.specs.Live.{IsOtherPublisher, IsOtherSample, IsOtherSubscriber, Item, StaysBut, publisher_ports}
use Rattle.iox2_pubsub.specs.Live.{subscriber_key, subscriber_ports}
use Rattle.iox2_pubsub.specs.declared.subscriber.Subscriber.{Subscriber}
use Rattle.iox2_pubsub.proofs.StaysBut.{nothing-is-new, stays-itself}
use Rattle.iox2_pubsub.proofs.StaysOn.{both-new, first-part, second-part, stays-but-whole, stays-twice}

module _ {T U F G : Type 0} where
  -- what one call spends, and then another, is both
  pub stays_but_both : (first second : Item) (start old new : Kept T U F G) → StaysBut first start old
      → StaysBut second old new → StaysBut (Both first second) start new
  stays_but_both first second start old new before next =
      stays-twice (Both first second) start old new
      (stays-but-whole first (Both first second) (first-part first second) start old before)
      (stays-but-whole second (Both first second) (second-part first second) old new next)

  -- where none is closed, all stays
  pub none_closed : (domain : Kept T U F G) → StaysBut (subscriber_ports []) domain domain
  none_closed = stays-itself

  -- the subscribers that were closed, and one more
  pub subscriber_closed_too : (id : ℕ) (ids : List ℕ) (start old new : Kept T U F G)
      → StaysBut (subscriber_ports ids) start old → StaysBut (A_subscriber id) old new
      → StaysBut (subscriber_ports (id ∷ ids)) start new
  subscriber_closed_too id ids start old new before next =
      stays-twice (subscriber_ports (id ∷ ids)) start old new
      (stays-but-whole (subscriber_ports ids) (subscriber_ports (id ∷ ids))
      (second-part (A_subscriber id) (subscriber_ports ids)) start old before)
      (stays-but-whole (A_subscriber id) (subscriber_ports (id ∷ ids))
      (first-part (A_subscriber id) (subscriber_ports ids)) old new next)

  -- and so with publishers
  pub publisher_closed_too : (id : ℕ) (ids : List ℕ) (start old new : Kept T U F G)
      → StaysBut (publisher_ports ids) start old → StaysBut (A_publisher id) old new
      → StaysBut (publisher_ports (id ∷ ids)) start new
  publisher_closed_too id ids start old new before next =
      stays-twice (publisher_ports (id ∷ ids)) start old new
      (stays-but-whole (publisher_ports ids) (publisher_ports (id ∷ ids))
      (second-part (A_publisher id) (publisher_ports ids)) start old before)
      (stays-but-whole (A_publisher id) (publisher_ports (id ∷ ids))
      (first-part (A_publisher id) (publisher_ports ids)) old new next)

  -- ports that are new are new together
  pub no_port_new : (start : Kept T U F G) → IsNewIn start (subscriber_ports [])
  no_port_new = nothing-is-new

  pub subscriber_new_too : (start : Kept T U F G) (id : ℕ) (ids : List ℕ) → IsNewIn start (A_subscriber id)
      → IsNewIn start (subscriber_ports ids) → IsNewIn start (subscriber_ports (id ∷ ids))
  subscriber_new_too start id ids first others = both-new start (A_subscriber id) (subscriber_ports ids) first others

  pub publisher_new_too : (start : Kept T U F G) (id : ℕ) (ids : List ℕ) → IsNewIn start (A_publisher id)
      → IsNewIn start (publisher_ports ids) → IsNewIn start (publisher_ports (id ∷ ids))
  publisher_new_too start id ids first others = both-new start (A_publisher id) (publisher_ports ids) first others

  -- subscribers that differ from one that was closed are live still
  pub others_stay_live : (subscriber : Subscriber) (others : List Subscriber) (old new : Kept T U F G)
      → StaysBut (A_subscriber subscriber.id) old new → IsNotAmong subscriber.id others → AreLiveKeys old others
      → AreLiveKeys new others
  others_stay_live subscriber [] old new stays away live = tt
  others_stay_live subscriber (other ∷ others) old new stays away live = (
    stays.subscribers (subscriber_key other) live.0 (λ same. away.0 (sym same)),
    others_stay_live subscriber others old new stays away.1 live.1,
  )

-- ---- what isn't among them

-- a subscriber that is none of these
pub other_subscriber : (id : ℕ) (ids : List ℕ) → contains ids id ≡ false → IsOtherSubscriber (subscriber_ports ids) id
other_subscriber id [] none = tt
other_subscriber id (first ∷ ids) none =
    let parts = or_parts (eqb first id) (contains ids id) none in
    ((λ same. true≢false (sym (eq-eqb first id (sym same)) ∙ parts.0)), other_subscriber id ids parts.1)

-- and a publisher
pub other_publisher : (id : ℕ) (ids : List ℕ) → contains ids id ≡ false → IsOtherPublisher (publisher_ports ids) id
other_publisher id [] none = tt
other_publisher id (first ∷ ids) none =
    let parts = or_parts (eqb first id) (contains ids id) none in
    ((λ same. true≢false (sym (eq-eqb first id (sym same)) ∙ parts.0)), other_publisher id ids parts.1)

-- of subscribers none is a publisher, a loan, a sample or a blocked send
pub subscribers_no_publisher : (id : ℕ) (ids : List ℕ) → IsOtherPublisher (subscriber_ports ids) id
subscribers_no_publisher id [] = tt
subscribers_no_publisher id (first ∷ ids) = (tt, subscribers_no_publisher id ids)

pub subscribers_no_loan : (number : ℕ) (ids : List ℕ) → IsOtherLoan (subscriber_ports ids) number
subscribers_no_loan number [] = tt
subscribers_no_loan number (first ∷ ids) = (tt, subscribers_no_loan number ids)

pub subscribers_no_sample : (subscriber number : ℕ) (ids : List ℕ)
    → IsOtherSample (subscriber_ports ids) subscriber number
subscribers_no_sample subscriber number [] = tt
subscribers_no_sample subscriber number (first ∷ ids) = (tt, subscribers_no_sample subscriber number ids)

pub subscribers_no_blocked : (publisher : ℕ) (ids : List ℕ) → IsOtherBlocked (subscriber_ports ids) publisher
subscribers_no_blocked publisher [] = tt
subscribers_no_blocked publisher (first ∷ ids) = (tt, subscribers_no_blocked publisher ids)

-- nor is one of publishers a subscriber
pub publishers_no_subscriber : (id : ℕ) (ids : List ℕ) → IsOtherSubscriber (publisher_ports ids) id
publishers_no_subscriber id [] = tt
publishers_no_subscriber id (first ∷ ids) = (tt, publishers_no_subscriber id ids)

pub publishers_no_loan : (number : ℕ) (ids : List ℕ) → IsOtherLoan (publisher_ports ids) number
publishers_no_loan number [] = tt
publishers_no_loan number (first ∷ ids) = (tt, publishers_no_loan number ids)

pub publishers_no_sample : (subscriber number : ℕ) (ids : List ℕ)
    → IsOtherSample (publisher_ports ids) subscriber number
publishers_no_sample subscriber number [] = tt
publishers_no_sample subscriber number (first ∷ ids) = (tt, publishers_no_sample subscriber number ids)

pub publishers_no_blocked : (publisher : ℕ) (ids : List ℕ) → IsOtherBlocked (publisher_ports ids) publisher
publishers_no_blocked publisher [] = tt
publishers_no_blocked publisher (first ∷ ids) = (tt, publishers_no_blocked publisher ids)

pub ruleset for_closing = (
  stays_but_both,
  subscriber_closed_too,
  publisher_closed_too,
  subscriber_new_too,
  publisher_new_too,
  others_stay_live,
  other_subscriber,
  other_publisher,
  subscribers_no_publisher,
  subscribers_no_loan,
  subscribers_no_sample,
  subscribers_no_blocked,
  publishers_no_subscriber,
  publishers_no_loan,
  publishers_no_sample,
  publishers_no_blocked,
)
