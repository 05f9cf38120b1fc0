-- What one command of a run leaves of what was live before the run.
use Rattle.std.proofs.Common.{◌≡◌, ℕ, zero, suc, false, List, [], ◌∷◌, ◌++◌, ap, sym, subst, ◌∙◌}
use Rattle.std.specs.Prelude.{IfOk, slice_set, slice_index_or}
use Rattle.std.specs.declared.result.Result.{Result}
use Rattle.std.specs.declared.result.Result.TheVariants.{Ok, Err}
use Rattle.iox2_machine.specs.declared.errors.SendError.{SendError}
use Rattle.iox2_machine.specs.declared.service_config.ServiceConfig.{ServiceConfig}
use Rattle.iox2_domain.specs.Kept.{Kept as Domain}
use Rattle.iox2_pubsub.specs.Live.{Item, No_item, A_loan, A_blocked_send, Both, Stays, StaysBut, IsNewIn, blocked_item}
use Rattle.iox2_pubsub.specs.SendCalls.{IfBlocked, is_blocked_send, spent_by_send, spent_by_copy}
use Rattle.iox2_pubsub.specs.declared.blocked_send.BlockedSend.{BlockedSend}
use Rattle.iox2_pubsub.specs.declared.publisher.Publisher.{Publisher}
use Rattle.iox2_pubsub.specs.declared.sample_mut.SampleMut.{SampleMut}
use Rattle.iox2_pubsub.specs.declared.send_outcome.SendOutcome.{SendOutcome}
use Rattle.iox2_pubsub.specs.declared.send_outcome.SendOutcome.TheVariants.{Delivered as WasDelivered}
use Rattle.iox2_pubsub.specs.declared.send_outcome.SendOutcome.TheVariants.{Blocked as IsBlocked}
use Rattle.iox2_pubsub.proofs.StaysBut.{nothing-is-new}
use Rattle.iox2_pubsub.proofs.StaysOn.{new-since, stays-on, both-new, part-new, second-part, sent-loan-part}
use Rattle.iox2_pubsub.proofs.StaysOn.{sent-copy-part, blocked-new}
use Rattle.iox2_runs.specs.Leaves.{item_of, AreNewIn, LeavesTable}
use Rattle.iox2_runs.specs.Placed.{ArePlaced, IsPlacedMade}
use Rattle.iox2_runs.specs.SendReplies.{made_by_send}
use Rattle.iox2_runs.specs.Services.{lacks_cells}
use Rattle.iox2_runs.specs.declared.runs.made.Made.{Made}
use Rattle.iox2_runs.specs.declared.runs.made.Made.TheVariants.{Nothing, Publisher as MadePublisher}
use Rattle.iox2_runs.specs.declared.runs.made.Made.TheVariants.{Subscriber as MadeSubscriber, Unwritten, Written}
use Rattle.iox2_runs.specs.declared.runs.made.Made.TheVariants.{Blocked, Sample as MadeSample}
use Rattle.iox2_runs.proofs.TableEntries.{set_same}

-- at the first index and at the later ones
at_each_index : (P : ℕ → Type 0) → P zero → ((k : ℕ) → P (suc k)) → (k : ℕ) → P k
at_each_index P first later zero = first
at_each_index P first later (suc k) = later k

module _ (P : Made → Type 0) (none : P Nothing) where
  -- what holds of a table's entries and of what is put into it holds of all entries then
  set-each : (table : List Made) (of : ℕ) (made : Made) → ((k : ℕ) → P (slice_index_or table k Nothing)) → P made
      → (k : ℕ) → P (slice_index_or (slice_set table of made) k Nothing)
  set-each [] of made are is = are
  set-each (h ∷ table) zero made are is =
      at_each_index (λ k. P (slice_index_or (made ∷ table) k Nothing)) is (λ k. are (suc k))
  set-each (h ∷ table) (suc of) made are is =
      at_each_index (λ k. P (slice_index_or (h ∷ slice_set table of made) k Nothing)) (are zero)
      (set-each table of made (λ k. are (suc k)) is)

  -- and so with what is put behind it
  push-each : (table : List Made) (made : Made) → ((k : ℕ) → P (slice_index_or table k Nothing)) → P made → (k : ℕ)
      → P (slice_index_or (table ++ made ∷ []) k Nothing)
  push-each [] made are is = at_each_index (λ k. P (slice_index_or (made ∷ []) k Nothing)) is (λ k. none)
  push-each (h ∷ table) made are is =
      at_each_index (λ k. P (slice_index_or (h ∷ (table ++ made ∷ [])) k Nothing)) (are zero)
      (push-each table made (λ k. are (suc k)) is)

module _ {T U F G : Type 0} (start : Domain T U F G) where
  -- an empty table
  pub none-new : AreNewIn start []
  none-new = λ of. nothing-is-new start

  -- what is put into a table
  pub set-new : (table : List Made) (of : ℕ) (made : Made) → AreNewIn start table → IsNewIn start (item_of made)
      → AreNewIn start (slice_set table of made)
  set-new table of made = set-each (λ h. IsNewIn start (item_of h)) (nothing-is-new start) table of made

  -- what is put behind it
  pub push-new : (table : List Made) (made : Made) → AreNewIn start table → IsNewIn start (item_of made)
      → AreNewIn start (table ++ made ∷ [])
  push-new table made = push-each (λ h. IsNewIn start (item_of h)) (nothing-is-new start) table made

  -- and so with where ports stand
  pub none-placed : lacks_cells start.config ≡ false → ArePlaced start []
  none-placed has = record { ports = λ of. tt; cells = has }

  pub push-placed : (table : List Made) (made : Made) → ArePlaced start table → IsPlacedMade start made
      → ArePlaced start (table ++ made ∷ [])
  push-placed table made are placed =
      record { ports = push-each (IsPlacedMade start) tt table made are.ports placed; cells = are.cells }

  -- a send makes no port
  sent-placed : (outcome : Result SendOutcome SendError) → IsPlacedMade start (made_by_send outcome)
  sent-placed (Ok (WasDelivered count)) = tt
  sent-placed (Ok (IsBlocked blocked)) = tt
  sent-placed (Err error) = tt

module _ {T U F G : Type 0} (old new : Domain T U F G) (table : List Made) where
  -- a port, a loan and a sample are where they were
  pub still-placed : (spent : Item) → StaysBut spent old new → (made : Made) → IsPlacedMade old made
      → IsPlacedMade new made
  still-placed spent stays Nothing placed = tt
  still-placed spent stays (MadePublisher publisher) placed = stays.placed_publishers publisher placed
  still-placed spent stays (MadeSubscriber subscriber) placed = stays.placed_subscribers subscriber placed
  still-placed spent stays (Unwritten loan) placed = (
    stays.placed_messages loan.loan.number loan.loan.book loan.loan.slot placed.0,
    ap (λ (c : ServiceConfig). c.units_per_element) stays.settings ∙ placed.1,
  )
  still-placed spent stays (Written loan) placed =
      stays.placed_messages loan.loan.number loan.loan.book loan.loan.slot placed
  still-placed spent stays (Blocked blocked) placed = tt
  still-placed spent stays (MadeSample sample) placed =
      stays.placed_messages sample.sample.number sample.sample.book sample.sample.slot placed

  -- and so each of the table's
  all-placed : (spent : Item) → StaysBut spent old new → ArePlaced old table → ArePlaced new table
  all-placed spent stays are = record {
    ports = λ of. still-placed spent stays (slice_index_or table of Nothing) (are.ports of);
    cells = ap (λ (c : ServiceConfig). lacks_cells c) stays.settings ∙ are.cells;
  }

  -- a command that changes nothing
  pub leaves-all : (table' : List Made) → old ≡ new → table' ≡ table → LeavesTable old new table table' Nothing
  leaves-all table' same is = record {
    live = λ start before are.
        (subst (Stays start) same before, subst (AreNewIn start) (sym is) are, nothing-is-new start);
    placed = λ are. (subst (ArePlaced new) (sym is) (subst (λ (d : Domain T U F G). ArePlaced d table) same are), tt);
  }

  -- one that spends nothing, and may make something
  pub leaves-making : Stays old new → (made : Made) → IsNewIn old (item_of made) → IsPlacedMade new made
      → LeavesTable old new table table made
  leaves-making stays made is placed = record {
    live = λ start before are. (
      stays-on start old before No_item new (nothing-is-new start) stays,
      are,
      new-since start old before (item_of made) is,
    );
    placed = λ are. (all-placed No_item stays are, placed);
  }

  -- one that uses what stands at a position, puts something in its place, and may make something
  pub leaves-using : (table' : List Made) (of : ℕ) (made put made' : Made) → slice_index_or table of Nothing ≡ made
      → (spent : Item) → StaysBut spent old new
      → ((start : Domain T U F G) → IsNewIn start (item_of made) → IsNewIn start spent)
      → ((start : Domain T U F G) → IsNewIn start (item_of made) → IsNewIn start (item_of put))
      → ((start : Domain T U F G) → Stays start old → IsNewIn start (item_of made) → IsNewIn start (item_of made'))
      → (IsPlacedMade new made → IsPlacedMade new put) → IsPlacedMade new made'
      → table' ≡ slice_set table of put → LeavesTable old new table table' made'
  leaves-using table' of made put made' at spent stays spends puts makes placed placed' is = record {
    live = λ start before are.
        let new-one : IsNewIn start (item_of made) = subst (λ (h : Made). IsNewIn start (item_of h)) at (are of) in (
          stays-on start old before spent new (spends start new-one) stays,
          subst (AreNewIn start) (sym is) (set-new start table of put are (puts start new-one)),
          makes start before new-one,
        );
    placed = λ are.
        let still : ArePlaced new table = all-placed spent stays are in (
          subst (ArePlaced new) (sym is) (record {
            ports = set-each (IsPlacedMade new) tt table of put still.ports
                (placed (subst (IsPlacedMade new) at (still.ports of)));
            cells = still.cells;
          }),
          placed',
        );
  }

  -- one that spends what stands at a position, and may leave the same there as another handle
  pub leaves-spending : (table' : List Made) (of : ℕ) (made made' : Made) → slice_index_or table of Nothing ≡ made
      → StaysBut (item_of made) old new
      → ((start : Domain T U F G) → IsNewIn start (item_of made) → IsNewIn start (item_of made'))
      → table' ≡ slice_set table of made' → IsPlacedMade new made' → LeavesTable old new table table' Nothing
  leaves-spending table' of made made' at stays put is placed =
      leaves-using table' of made made' Nothing at (item_of made) stays (λ start new-one. new-one) put
      (λ start before new-one. nothing-is-new start) (λ _. placed) tt is

  -- one that lends something of the publisher at a position
  pub leaves-lending : (table' : List Made) → table' ≡ table → (of : ℕ) (publisher : Publisher) (made : Made)
      (loan : Item) → slice_index_or table of Nothing ≡ MadePublisher publisher → Stays old new
      → IsNewIn old loan → item_of made ≡ Both loan (A_blocked_send publisher.id) → IsPlacedMade new made
      → LeavesTable old new table table' made
  leaves-lending table' same of publisher made loan at stays new-loan is placed =
      leaves-using table' of (MadePublisher publisher) (MadePublisher publisher) made at No_item stays
      (λ start new-one. nothing-is-new start) (λ start new-one. new-one)
      (λ start before new-one. subst (IsNewIn start) (sym is)
      (both-new start loan (A_blocked_send publisher.id) (new-since start old before loan new-loan)
      (blocked-new start publisher.id new-one)))
      (λ stands. stands) placed
      (same ∙ sym (ap (λ (h : Made). slice_set table of h) (sym at) ∙ set_same table of))

  -- what a send of this publisher makes is new, where the publisher's sends are
  made-new : (p : ℕ) (outcome : Result SendOutcome SendError)
      → IfOk outcome (λ came. IfBlocked came (λ blocked. blocked.loan.publisher ≡ p))
      → (start : Domain T U F G) → IsNewIn start (A_blocked_send p) → IsNewIn start (item_of (made_by_send outcome))
  made-new p (Ok (WasDelivered count)) its start is = nothing-is-new start
  made-new p (Ok (IsBlocked blocked)) its start is = subst (λ (i : ℕ). IsNewIn start (A_blocked_send i)) (sym its) is
  made-new p (Err error) its start is = nothing-is-new start

  -- one that sends the loan at a position
  pub leaves-sending : (table' : List Made) (of : ℕ) (loan : SampleMut) (outcome : Result SendOutcome SendError)
      → slice_index_or table of Nothing ≡ Written loan
      → StaysBut (spent_by_send loan outcome) old new
      → IfOk outcome (λ came. IfBlocked came (λ blocked. blocked.loan.publisher ≡ loan.loan.publisher))
      → table' ≡ slice_set table of Nothing → LeavesTable old new table table' (made_by_send outcome)
  leaves-sending table' of loan outcome at stays its is =
      leaves-using table' of (Written loan) Nothing (made_by_send outcome) at (spent_by_send loan outcome) stays
      (λ start new-one. part-new start _ _ (sent-loan-part loan.loan.number loan.loan.publisher
      (is_blocked_send outcome)) new-one) (λ start new-one. nothing-is-new start)
      (λ start before new-one. made-new loan.loan.publisher outcome its start
      (part-new start _ _ (second-part (A_loan loan.loan.number) (A_blocked_send loan.loan.publisher)) new-one))
      (λ _. tt) (sent-placed new outcome) is

  -- one that sends a copy with the publisher at a position
  pub leaves-copying : (of : ℕ) (publisher : Publisher) (outcome : Result SendOutcome SendError)
      → slice_index_or table of Nothing ≡ MadePublisher publisher
      → StaysBut (spent_by_copy publisher outcome) old new
      → IfOk outcome (λ came. IfBlocked came (λ blocked. blocked.loan.publisher ≡ publisher.id))
      → LeavesTable old new table table (made_by_send outcome)
  leaves-copying of publisher outcome at stays its =
      leaves-using table of (MadePublisher publisher) (MadePublisher publisher) (made_by_send outcome) at
      (spent_by_copy publisher outcome) stays
      (λ start new-one. part-new start _ _ (sent-copy-part publisher.id (is_blocked_send outcome))
      (blocked-new start publisher.id new-one)) (λ start new-one. new-one)
      (λ start before new-one. made-new publisher.id outcome its start (blocked-new start publisher.id new-one))
      (λ stands. stands) (sent-placed new outcome)
      (sym (ap (λ (h : Made). slice_set table of h) (sym at) ∙ set_same table of))

  -- one that goes on with the blocked send at a position
  pub leaves-going-on : (table' : List Made) (of : ℕ) (send : BlockedSend) (outcome : Result SendOutcome SendError)
      → slice_index_or table of Nothing ≡ Blocked send → StaysBut (blocked_item send) old new
      → IfOk outcome (λ came. IfBlocked came (λ blocked. blocked.loan.publisher ≡ send.loan.publisher))
      → table' ≡ slice_set table of (made_by_send outcome) → LeavesTable old new table table' Nothing
  leaves-going-on table' of send outcome at stays its is =
      leaves-spending table' of (Blocked send) (made_by_send outcome) at stays
      (λ start new-one. made-new send.loan.publisher outcome its start new-one) is (sent-placed new outcome)
