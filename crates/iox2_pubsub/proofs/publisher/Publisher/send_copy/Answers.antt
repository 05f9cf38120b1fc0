use Rattle.std.proofs.Common.{◌≡◌, ap, inl, inr, refl, sym, ◌∙◌, List, [], ◌∷◌, ◌++◌, ℕ, subst}
use Rattle.std.proofs.lemmas.Result.{err_from_is_err_and}
use Rattle.iox2_machine.specs.declared.errors.LoanError.{LoanError}
use Rattle.iox2_machine.specs.declared.errors.SendError.TheVariants.{LoanError as Not_lent, UnableToDeliver}
use Rattle.iox2_machine.specs.declared.key.Key.{Key}
use Rattle.iox2_machine.specs.machine.Loans.{written}
use Rattle.iox2_machine.specs.machine.State.{State}
use Rattle.iox2_domain.specs.Boxes.{answers_of}
use Rattle.iox2_pubsub.specs.Live.{A_sent_loan, No_item, StaysBut, publisher_key, written_key}
use Rattle.iox2_pubsub.proofs.BoxesAlike.{sends-kept, written-lender}
use Rattle.iox2_pubsub.proofs.SendShown.{fails-copy, fails-there, whose-blocked}
use Rattle.iox2_pubsub.specs.SendCalls.{FailsCopy, is_blocked_send, spent_by_copy}
use Rattle.iox2_pubsub.proofs.WrittenLoanCalls.{with_value, written-out, copy-sent, written-refused}
use Rattle.iox2_machine.specs.declared.service_config.ServiceConfig.{ServiceConfig}
use Rattle.iox2_pubsub.proofs.CopiesCount.{copy-counts, each-connected}
use Rattle.iox2_pubsub.proofs.CopiesServe.{all-since, connected-as, copy-arrives, copy-others, copy-serves}
use Rattle.iox2_pubsub.proofs.CopiesServe.{none-are-all, none-still, waits-both}
use Rattle.iox2_pubsub.specs.declared.subscriber.Subscriber.{Subscriber}
use Rattle.iox2_pubsub.specs.Leaves.{Leaves}
use Rattle.iox2_pubsub.proofs.FailedSends.{copy-fails}
use Rattle.iox2_pubsub.proofs.ForCallers.{waits_as_before}
use Rattle.iox2_pubsub.proofs.FullReceivers.{copy-full}
use Rattle.iox2_pubsub.proofs.RefusedCopies.{lent-not-refused}
use Rattle.iox2_pubsub.proofs.RoomySends.{all-room-since, alone-since}
use Rattle.iox2_pubsub.proofs.SendsPend.{copy-pends}
use Rattle.iox2_pubsub.proofs.StaysOn.{copy-stays, no-part, stays-but-whole}
use Rattle.iox2_pubsub.proofs.publisher.Publisher.send_copy.Goals as goal

pub returns-in_err-loan-clause-sends : goal.returns-in_err-loan-clause-sends
returns-in_err-loan-clause-sends g c = λ m s shown.
    let refused = err_from_is_err_and c.from_residual.result c.from_residual.ensures.1 in
    let lends = c.in_err-loan.ensures.lends m s shown in
    rw refused.1 (
      m,
      lends.0,
      lends.1,
      inr (record {
        reason = c.in_err-loan.field-0.0;
        is = refused.2;
        messages = refl;
        state = (lends.2).0;
        refused = written-refused s lends.0 c.args.self.now.id c.in_err-loan.field-0.0 (lends.2).1;
      }),
    )

pub returns-clause-sends : goal.returns-clause-sends
returns-clause-sends g c = λ m s shown.
    let lends = c.in_ok-loan.ensures.lends m s shown in
    let wrote = c.write_payload.ensures.written m lends.0 lends.1 in
    let next = c.in_ok-loan.ensures.loan.lent.number
    ∙ sym (ap (λ (t : State g.row.T.Denot g.row.U.Denot). t.next_message) shown.state) in
    let same = ap (λ (k : Key). k.message) c.write_payload.ensures.becomes.key in
    let mid = with_value s lends.0 c.args.self.now.id c.in_ok-loan.loan.loan.number next wrote.0 wrote.1 c.args.value
    (lends.2).0 (lends.2).2 in
    let out = written-out s lends.0 c.args.self.now.id c.in_ok-loan.loan.loan.number next wrote.0 wrote.1 c.args.value
    (lends.2).0 (lends.2).2 in
    let sent = c.send.ensures.sent m mid (written wrote.0 c.args.value) wrote.2 (ap mid.loans same ∙ out) in
    let key = publisher_key c.args.self.now in
    let there = c.requires.ready.there in
    let still = c.in_ok-loan.ensures.leaves.stays.publishers key there tt in
    let boxed = c.write_payload.ensures.becomes.leaves.stays.boxes key still tt
    ∙ c.in_ok-loan.ensures.leaves.stays.boxes key there tt in
    let degrading = c.write_payload.ensures.becomes.leaves.stays.degradation_boxes key still tt
    ∙ c.in_ok-loan.ensures.leaves.stays.degradation_boxes key there tt in
    let lender =
    written-lender _ c.write_payload.result c.write_payload.ensures.becomes.out m mid wrote.2
    (written wrote.0 c.args.value) (ap mid.loans same ∙ out)
    ∙ ap (λ (k : Key). k.port) c.write_payload.ensures.becomes.key ∙ c.in_ok-loan.ensures.loan.lent.publisher in (
      _,
      sent.0,
      sent.1,
      copy-sent s lends.0 c.args.self.now.id c.in_ok-loan.loan.loan.number next wrote.0 wrote.1 c.args.value (lends.2).0
          (lends.2).2
          (answers_of g.F.BackpressureFn.allows g.G.DegradationFn.allows c.args.domain.now.boxes.publishers)
          g.U.Default.is_default (lends.2).1 m c.write_payload.result.loan.number same c.send.result
          (fails-there _ (written_key c.write_payload.result)
          (c.write_payload.ensures.becomes.lent c.in_ok-loan.ensures.loan.lent.lent) c.send.result
          c.send.ensures.errors) sent.0
          (sends-kept g.F.BackpressureFn.allows g.G.DegradationFn.allows c.args.domain.now _ c.args.self.now.id boxed
          degrading mid c.write_payload.result.loan.number
          (written wrote.0 c.args.value) c.send.result sent.0 lender sent.2),
    )

pub send-requires-clause-unblocked : goal.send-requires-clause-unblocked
send-requires-clause-unblocked g c = c.write_payload.ensures.becomes.unblocked c.in_ok-loan.ensures.loan.lent.unblocked

pub returns-clause-whose : goal.returns-clause-whose
returns-clause-whose g c =
    whose-blocked _ (written_key c.write_payload.result) c.args.self.now.id
    (ap (λ (k : Key). k.port) c.write_payload.ensures.becomes.key ∙ c.in_ok-loan.ensures.loan.lent.publisher)
    c.send.result c.send.ensures.spends.blocked

pub returns-in_err-loan-clause-errors : goal.returns-in_err-loan-clause-errors
unfolding FailsCopy
returns-in_err-loan-clause-errors g c =
    let refused = err_from_is_err_and c.from_residual.result c.from_residual.ensures.1 in
    rw refused.1 (inl (c.in_err-loan.field-0.0, refused.2))

pub returns-clause-errors : goal.returns-clause-errors
returns-clause-errors g c =
    fails-copy c.args.domain.now _ c.args.self.now (written_key c.write_payload.result)
    (ap (λ (k : Key). k.port) c.write_payload.ensures.becomes.key ∙ c.in_ok-loan.ensures.loan.lent.publisher)
    (c.write_payload.ensures.becomes.lent c.in_ok-loan.ensures.loan.lent.lent)
    (λ never. c.write_payload.ensures.becomes.leaves.stays.never_fail _
    (c.in_ok-loan.ensures.leaves.stays.never_fail _ never)) c.send.result c.send.ensures.errors

pub returns-in_err-loan-clause-refused : goal.returns-in_err-loan-clause-refused
returns-in_err-loan-clause-refused g c =
    let refused = err_from_is_err_and c.from_residual.result c.from_residual.ensures.1 in
    rw refused.1 (λ reason is. record {
      stays = c.in_err-loan.ensures.leaves.stays;
      waits = c.in_err-loan.ensures.leaves.waits;
      up_to_date = c.in_err-loan.ensures.leaves.up_to_date;
      loans_left = c.in_err-loan.ensures.refused;
      borrows_left = c.in_err-loan.ensures.leaves.borrows_left;
    })

pub returns-clause-refused : goal.returns-clause-refused
returns-clause-refused g c = lent-not-refused c.write_payload.new.domain (written_key c.write_payload.result)
    (Leaves c.args.domain.now c.send.new.domain) c.send.result c.send.ensures.errors

pub returns-in_err-loan-clause-brings : goal.returns-in_err-loan-clause-brings
returns-in_err-loan-clause-brings g c =
    λ subscriber no_history none. none-are-all _ _ (none-still c.in_err-loan.ensures.leaves.waits subscriber none)

pub returns-clause-brings : goal.returns-clause-brings
returns-clause-brings g c = λ subscriber no_history none.
    let waits = waits-both c.in_ok-loan.ensures.leaves.waits c.write_payload.ensures.becomes.leaves.waits in
    let settings = c.write_payload.ensures.becomes.leaves.stays.settings ∙ c.in_ok-loan.ensures.leaves.stays.settings in
    c.send.ensures.brings subscriber (c.args.value ∷ [])
    (ap (λ (config : ServiceConfig). config.history_size) settings ∙ no_history)
    (none-still waits subscriber none) c.write_payload.ensures.reads

pub returns-clause-serves : goal.returns-clause-serves
returns-clause-serves g c = λ subscriber connected.
    let waits = waits-both c.in_ok-loan.ensures.leaves.waits c.write_payload.ensures.becomes.leaves.waits in
    let settings = c.write_payload.ensures.becomes.leaves.stays.settings ∙ c.in_ok-loan.ensures.leaves.stays.settings in
    let lender =
    ap (λ (k : Key). k.port) c.write_payload.ensures.becomes.key ∙ c.in_ok-loan.ensures.loan.lent.publisher in
    let still = c.in_ok-loan.ensures.leaves.up_to_date.connections c.args.self.now.id subscriber connected in
    copy-serves c.args.domain.now _ _ waits settings
    (λ it its. c.write_payload.ensures.becomes.leaves.stays.buffers it
    (c.in_ok-loan.ensures.leaves.stays.buffers it its)) c.args.self.now.id c.write_payload.result.loan.publisher lender
    subscriber (c.args.value ∷ []) c.send.result
    (c.send.ensures.serves subscriber (c.args.value ∷ [])
    (connected-as c.write_payload.ensures.becomes.leaves.up_to_date c.args.self.now.id
    c.write_payload.result.loan.publisher lender subscriber still) c.write_payload.ensures.reads)

pub returns-clause-arrives : goal.returns-clause-arrives
returns-clause-arrives g c = λ subscriber none connected.
    let waits = waits-both c.in_ok-loan.ensures.leaves.waits c.write_payload.ensures.becomes.leaves.waits in
    let lender =
    ap (λ (k : Key). k.port) c.write_payload.ensures.becomes.key ∙ c.in_ok-loan.ensures.loan.lent.publisher in
    let still = c.in_ok-loan.ensures.leaves.up_to_date.connections c.args.self.now.id subscriber connected in
    copy-arrives _ c.args.self.now.id c.write_payload.result.loan.publisher lender subscriber
    ((c.args.value ∷ []) ∷ []) c.send.result
    (c.send.ensures.arrives subscriber (c.args.value ∷ []) (none-still waits subscriber none)
    (connected-as c.write_payload.ensures.becomes.leaves.up_to_date c.args.self.now.id
    c.write_payload.result.loan.publisher lender subscriber still) c.write_payload.ensures.reads)

pub returns-clause-joins : goal.returns-clause-joins
returns-clause-joins g c = λ subscriber earlier all its room connected.
    let waits = waits-both c.in_ok-loan.ensures.leaves.waits c.write_payload.ensures.becomes.leaves.waits in
    let lender =
    ap (λ (k : Key). k.port) c.write_payload.ensures.becomes.key ∙ c.in_ok-loan.ensures.loan.lent.publisher in
    let still = c.in_ok-loan.ensures.leaves.up_to_date.connections c.args.self.now.id subscriber connected in
    let buffer = c.write_payload.ensures.becomes.leaves.stays.buffers subscriber
    (c.in_ok-loan.ensures.leaves.stays.buffers subscriber its) in
    copy-arrives _ c.args.self.now.id c.write_payload.result.loan.publisher lender subscriber
    (earlier ++ (c.args.value ∷ []) ∷ []) c.send.result
    (c.send.ensures.joins subscriber (c.args.value ∷ []) earlier
    (all-since waits c.args.self.now.id c.write_payload.result.loan.publisher lender subscriber earlier all) buffer room
    (connected-as c.write_payload.ensures.becomes.leaves.up_to_date c.args.self.now.id
    c.write_payload.result.loan.publisher lender subscriber still) c.write_payload.ensures.reads)

pub returns-in_err-loan-clause-others : goal.returns-in_err-loan-clause-others
returns-in_err-loan-clause-others g c = λ other away.
    ap (λ (f : ℕ → Subscriber → List (List g.row.T.Denot)). f other) c.in_err-loan.ensures.leaves.waits.from

pub returns-clause-others : goal.returns-clause-others
returns-clause-others g c =
    let waits = waits-both c.in_ok-loan.ensures.leaves.waits c.write_payload.ensures.becomes.leaves.waits in
    let lender =
    ap (λ (k : Key). k.port) c.write_payload.ensures.becomes.key ∙ c.in_ok-loan.ensures.loan.lent.publisher in
    copy-others c.args.domain.now _ _ waits c.args.self.now.id c.write_payload.result.loan.publisher lender
    c.send.ensures.spends.others

pub returns-in_err-loan-clause-borrows_left : goal.returns-in_err-loan-clause-borrows_left
returns-in_err-loan-clause-borrows_left g c = c.in_err-loan.ensures.leaves.borrows_left

pub returns-clause-borrows_left : goal.returns-clause-borrows_left
returns-clause-borrows_left g c = record {
  all = λ subscriber n left.
      c.send.ensures.spends.borrows_left.all subscriber n
      (c.write_payload.ensures.becomes.leaves.borrows_left.all subscriber n
      (c.in_ok-loan.ensures.leaves.borrows_left.all subscriber n left));
  of_each = λ p subscriber n left.
      c.send.ensures.spends.borrows_left.of_each p subscriber n
      (c.write_payload.ensures.becomes.leaves.borrows_left.of_each p subscriber n
      (c.in_ok-loan.ensures.leaves.borrows_left.of_each p subscriber n left));
}

pub returns-clause-roomy_alone : goal.returns-clause-roomy_alone
returns-clause-roomy_alone g c = λ subscriber has.
    let waits = waits-both c.in_ok-loan.ensures.leaves.waits c.write_payload.ensures.becomes.leaves.waits in
    let settings = c.write_payload.ensures.becomes.leaves.stays.settings ∙ c.in_ok-loan.ensures.leaves.stays.settings in
    let lender =
    ap (λ (k : Key). k.port) c.write_payload.ensures.becomes.key ∙ c.in_ok-loan.ensures.loan.lent.publisher in
    let still = c.in_ok-loan.ensures.leaves.up_to_date.connections c.args.self.now.id subscriber has.connected in
    c.send.ensures.roomy_alone subscriber
    (alone-since waits settings (λ it its. c.write_payload.ensures.becomes.leaves.stays.buffers it
    (c.in_ok-loan.ensures.leaves.stays.buffers it its)) c.args.self.now.id c.write_payload.result.loan.publisher lender
    subscriber
    (connected-as c.write_payload.ensures.becomes.leaves.up_to_date c.args.self.now.id
    c.write_payload.result.loan.publisher lender subscriber still) has)

pub returns-clause-pending : goal.returns-clause-pending
returns-clause-pending g c = λ subscriber connected.
    let waits = waits-both c.in_ok-loan.ensures.leaves.waits c.write_payload.ensures.becomes.leaves.waits in
    let settings = c.write_payload.ensures.becomes.leaves.stays.settings ∙ c.in_ok-loan.ensures.leaves.stays.settings in
    let lender =
    ap (λ (k : Key). k.port) c.write_payload.ensures.becomes.key ∙ c.in_ok-loan.ensures.loan.lent.publisher in
    let still = c.in_ok-loan.ensures.leaves.up_to_date.connections c.args.self.now.id subscriber connected in
    copy-pends c.args.domain.now _ _ waits settings
    (λ it its. c.write_payload.ensures.becomes.leaves.stays.buffers it
    (c.in_ok-loan.ensures.leaves.stays.buffers it its)) subscriber (c.args.value ∷ []) c.send.result
    (c.send.ensures.pending subscriber (c.args.value ∷ [])
    (connected-as c.write_payload.ensures.becomes.leaves.up_to_date c.args.self.now.id
    c.write_payload.result.loan.publisher lender subscriber still) c.write_payload.ensures.reads)

pub returns-clause-roomy_at_all : goal.returns-clause-roomy_at_all
returns-clause-roomy_at_all g c = λ subscribers has.
    let waits = waits-both c.in_ok-loan.ensures.leaves.waits c.write_payload.ensures.becomes.leaves.waits in
    let settings = c.write_payload.ensures.becomes.leaves.stays.settings ∙ c.in_ok-loan.ensures.leaves.stays.settings in
    let lender =
    ap (λ (k : Key). k.port) c.write_payload.ensures.becomes.key ∙ c.in_ok-loan.ensures.loan.lent.publisher in
    c.send.ensures.roomy_at_all subscribers
    (all-room-since waits settings (λ it its. c.write_payload.ensures.becomes.leaves.stays.buffers it
    (c.in_ok-loan.ensures.leaves.stays.buffers it its)) c.args.self.now.id c.write_payload.result.loan.publisher lender
    (λ it is. connected-as c.write_payload.ensures.becomes.leaves.up_to_date c.args.self.now.id
    c.write_payload.result.loan.publisher lender it
    (c.in_ok-loan.ensures.leaves.up_to_date.connections c.args.self.now.id it is)) subscribers has)

pub returns-clause-counts : goal.returns-clause-counts
returns-clause-counts g c = λ subscribers different connected.
    let waits = waits-both c.in_ok-loan.ensures.leaves.waits c.write_payload.ensures.becomes.leaves.waits in
    let settings = c.write_payload.ensures.becomes.leaves.stays.settings ∙ c.in_ok-loan.ensures.leaves.stays.settings in
    let lender =
    ap (λ (k : Key). k.port) c.write_payload.ensures.becomes.key ∙ c.in_ok-loan.ensures.loan.lent.publisher in
    copy-counts c.args.domain.now _ _ waits settings
    (λ it its. c.write_payload.ensures.becomes.leaves.stays.buffers it
    (c.in_ok-loan.ensures.leaves.stays.buffers it its)) c.args.self.now.id
    (c.args.value ∷ []) c.write_payload.result.loan.publisher lender subscribers c.send.result
    (c.send.ensures.counts subscribers (c.args.value ∷ []) different
    (each-connected c.args.domain.now _ c.args.self.now.id c.write_payload.result.loan.publisher
    (λ it is. connected-as c.write_payload.ensures.becomes.leaves.up_to_date c.args.self.now.id
    c.write_payload.result.loan.publisher lender it
    (c.in_ok-loan.ensures.leaves.up_to_date.connections c.args.self.now.id it is)) subscribers connected)
    c.write_payload.ensures.reads)

pub returns-in_err-loan-clause-stays : goal.returns-in_err-loan-clause-stays
returns-in_err-loan-clause-stays g c =
    stays-but-whole No_item (spent_by_copy c.args.self.now c.from_residual.result)
    (no-part (spent_by_copy c.args.self.now c.from_residual.result)) c.args.domain.now c.loan_uninit.new.domain
    c.in_err-loan.ensures.leaves.stays

pub returns-clause-stays : goal.returns-clause-stays
returns-clause-stays g c =
    let n = c.in_ok-loan.loan.loan.number in
    let message = ap (λ (k : Key). k.message) c.write_payload.ensures.becomes.key in
    let lender =
    ap (λ (k : Key). k.port) c.write_payload.ensures.becomes.key ∙ c.in_ok-loan.ensures.loan.lent.publisher in
    let sent =
    subst (λ (k : ℕ). StaysBut (A_sent_loan k c.args.self.now.id (is_blocked_send c.send.result))
    c.write_payload.new.domain c.send.new.domain) message
    (subst (λ (p : ℕ). StaysBut (A_sent_loan c.write_payload.result.loan.number p (is_blocked_send c.send.result))
    c.write_payload.new.domain c.send.new.domain) lender c.send.ensures.spends.stays) in
    copy-stays c.args.domain.now c.loan_uninit.new.domain c.write_payload.new.domain c.send.new.domain n
    c.args.self.now.id
    (is_blocked_send c.send.result) c.in_ok-loan.ensures.leaves.stays c.in_ok-loan.ensures.loan.lent.is_new
    c.write_payload.ensures.becomes.leaves.stays sent

pub returns-in_err-loan-clause-consistent : goal.returns-in_err-loan-clause-consistent
returns-in_err-loan-clause-consistent g c = c.in_err-loan.ensures.consistent

pub returns-clause-consistent : goal.returns-clause-consistent
returns-clause-consistent g c = c.in_ok-loan.ensures.consistent

-- a loan that is refused is no failed delivery
not-undelivered : (reason : LoanError) → Not_lent reason ≡ UnableToDeliver → ⊥
not-undelivered reason is = cc

pub returns-in_err-loan-clause-roomy_alone : goal.returns-in_err-loan-clause-roomy_alone
returns-in_err-loan-clause-roomy_alone g c =
    let refused = err_from_is_err_and c.from_residual.result c.from_residual.ensures.1 in
    λ subscriber has. rw refused.1 (tt, λ is. not-undelivered c.in_err-loan.field-0.0 (sym refused.2 ∙ is))

pub returns-in_err-loan-clause-roomy_at_all : goal.returns-in_err-loan-clause-roomy_at_all
returns-in_err-loan-clause-roomy_at_all g c =
    let refused = err_from_is_err_and c.from_residual.result c.from_residual.ensures.1 in
    λ subscribers has. rw refused.1 (tt, λ is. not-undelivered c.in_err-loan.field-0.0 (sym refused.2 ∙ is))

pub returns-clause-full : goal.returns-clause-full
returns-clause-full g c = λ subscriber connected.
    let waits = waits-both c.in_ok-loan.ensures.leaves.waits c.write_payload.ensures.becomes.leaves.waits in
    let lender =
    ap (λ (k : Key). k.port) c.write_payload.ensures.becomes.key ∙ c.in_ok-loan.ensures.loan.lent.publisher in
    let still = c.in_ok-loan.ensures.leaves.up_to_date.connections c.args.self.now.id subscriber connected in
    copy-full _ waits (λ it its. c.write_payload.ensures.becomes.leaves.stays.buffers it
    (c.in_ok-loan.ensures.leaves.stays.buffers it its)) c.args.self.now.id c.write_payload.result.loan.publisher lender
    subscriber c.send.result
    (c.send.ensures.full subscriber (connected-as c.write_payload.ensures.becomes.leaves.up_to_date c.args.self.now.id
    c.write_payload.result.loan.publisher lender subscriber still))

pub returns-in_err-loan-clause-failed : goal.returns-in_err-loan-clause-failed
returns-in_err-loan-clause-failed g c =
    let refused = err_from_is_err_and c.from_residual.result c.from_residual.ensures.1 in
    λ subscriber connected. rw refused.1 (
      λ is. absurd (not-undelivered c.in_err-loan.field-0.0 (sym refused.2 ∙ is)),
      λ other. waits_as_before _ _ subscriber c.in_err-loan.ensures.leaves.waits,
    )

pub returns-clause-failed : goal.returns-clause-failed
returns-clause-failed g c = λ subscriber connected.
    let waits = waits-both c.in_ok-loan.ensures.leaves.waits c.write_payload.ensures.becomes.leaves.waits in
    let settings = c.write_payload.ensures.becomes.leaves.stays.settings ∙ c.in_ok-loan.ensures.leaves.stays.settings in
    let lender =
    ap (λ (k : Key). k.port) c.write_payload.ensures.becomes.key ∙ c.in_ok-loan.ensures.loan.lent.publisher in
    let still = c.in_ok-loan.ensures.leaves.up_to_date.connections c.args.self.now.id subscriber connected in
    copy-fails c.args.domain.now _ _ waits settings
    (λ it its. c.write_payload.ensures.becomes.leaves.stays.buffers it
    (c.in_ok-loan.ensures.leaves.stays.buffers it its)) c.args.self.now.id c.write_payload.result.loan.publisher lender
    subscriber (c.args.value ∷ []) c.send.result
    (c.send.ensures.failed subscriber (c.args.value ∷ [])
    (connected-as c.write_payload.ensures.becomes.leaves.up_to_date c.args.self.now.id
    c.write_payload.result.loan.publisher lender subscriber still) c.write_payload.ensures.reads)
