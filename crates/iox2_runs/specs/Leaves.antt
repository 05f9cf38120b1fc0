-- What a run leaves of what was live before it.
use Rattle.std.specs.Prelude.{ℕ, List, slice_index_or}
use Rattle.iox2_domain.specs.Kept.{Kept as Domain}
use Rattle.iox2_pubsub.specs.Live.{Item, No_item, A_blocked_send, Both, Stays, IsNewIn, publisher_port, subscriber_port}
use Rattle.iox2_pubsub.specs.Live.{unwritten_loan, written_loan, blocked_item, received_sample}
use Rattle.iox2_runs.specs.Placed.{ArePlaced, IsPlacedMade}
use Rattle.iox2_runs.specs.declared.runs.made.Made.{Made}
use Rattle.iox2_runs.specs.declared.runs.made.Made.TheVariants.{Nothing, Publisher, Subscriber, Unwritten, Written}
use Rattle.iox2_runs.specs.declared.runs.made.Made.TheVariants.{Blocked, Sample}

-- The port, loan, blocked send or sample that a command made. For a loan it is also the send of its publisher, which
-- may become blocked.
abbrev pub item_of : Made → Item
item_of Nothing = No_item
item_of (Publisher publisher) = publisher_port publisher
item_of (Subscriber subscriber) = subscriber_port subscriber
item_of (Unwritten loan) = Both (unwritten_loan loan) (A_blocked_send loan.loan.publisher)
item_of (Written loan) = Both (written_loan loan) (A_blocked_send loan.loan.publisher)
item_of (Blocked blocked) = blocked_item blocked
item_of (Sample sample) = received_sample sample

module _ {T U F G : Type 0} where
  -- The table has no port, no loan, no blocked send and no sample that was live in this domain, and no publisher of
  -- one.
  abbrev pub AreNewIn : Domain T U F G → List Made → Type 0
  AreNewIn start table = (of : ℕ) → IsNewIn start (item_of (slice_index_or table of Nothing))

  -- If all that was live in an earlier domain is live and the table has nothing of it, this is so afterwards too, also
  -- of what is made. And the ports of the table stand where their handles say, if they did, as one does that is made.
  pub record LeavesTable (old new : Domain T U F G) (table table' : List Made) (made : Made) : Type 0 where
    pub live : (start : Domain T U F G) → Stays start old → AreNewIn start table
        → Stays start new × AreNewIn start table' × IsNewIn start (item_of made)
    pub placed : ArePlaced old table → ArePlaced new table' × IsPlacedMade new made
