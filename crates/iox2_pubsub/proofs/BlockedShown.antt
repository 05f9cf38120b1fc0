-- A blocked send that is tried again or given up, seen from outside.
use Rattle.std.proofs.Common.{inl, inr, ◌≡◌, ℕ, ◌<◌, List, [], false, refl, ap, sym, subst, ◌∙◌, Option, None, Some}
use Rattle.std.proofs.Common.{arith}
use Rattle.std.proofs.lemmas.Option.{same_Some}
use Rattle.std.specs.Option.{option_map}
use Rattle.std.specs.declared.time.Duration.{Duration}
use Rattle.std.specs.Prelude.{slice_index_or}
use Rattle.iox2_machine.specs.machine.Mailbox.{is_borrowed}
use Rattle.iox2_machine.specs.machine.Records.{Entry, Environment, Loan, Publisher, BlockedSend}
use Rattle.iox2_machine.specs.machine.Sends.{Retry, GiveUp, SendResult, Blocked_send, Delivered_to, Send_error}
use Rattle.iox2_machine.specs.machine.SingleCalls.{HoldsBlocked}
use Rattle.iox2_machine.specs.machine.State.{State, Messages}
use Rattle.iox2_connections.specs.Mailboxes.{sender_ends}
use Rattle.iox2_laws.specs.Laws.{Advances}
use Rattle.iox2_laws.proofs.LoanKeeping.{retry_loans, give_up_loans}
use Rattle.iox2_laws.proofs.SendLaws.{retry_advances, give_up_advances}
use Rattle.iox2_laws.proofs.SendsRemain.{PortsRemain, retry_remains, retry_frees, give_up_remains, give_up_frees}
use Rattle.iox2_laws.proofs.Waits.{Waits, retry_waits, give_up_waits}
use Rattle.iox2_domain.specs.BlockedSends.{HasBlocked, waiting_send}
use Rattle.iox2_domain.specs.declared.publisher_state.BlockedDelivery.{BlockedDelivery}
use Rattle.iox2_domain.specs.Boxes.{DomainBoxes}
use Rattle.iox2_domain.specs.Fields.{Fields, kept_of, publisher_of, number_in_slot, blocked_send, keeping}
use Rattle.iox2_domain.specs.Invariant.{IsDomain}
use Rattle.iox2_domain.specs.Kept.{Kept, state_of, entries_of}
use Rattle.iox2_domain.specs.Ports.{PublisherFields}
use Rattle.iox2_domain.specs.Shows.{Shows}
use Rattle.iox2_domain.specs.KeptPlaces.{KeepsPlaces}
use Rattle.iox2_domain.proofs.lemmas.fields.ConnectionEnds.{publisher-stands}
use Rattle.iox2_pubsub.specs.Live.{A_blocked_send, IsUnblocked, StaysBut}
use Rattle.iox2_pubsub.specs.SendCalls.{result_of_send}
use Rattle.iox2_pubsub.specs.declared.send_outcome.SendOutcome.{SendOutcome}
use Rattle.iox2_pubsub.proofs.LiveParts.{unblocked-free, unblocked-parts}
use Rattle.std.specs.Prelude.{IfErr}
use Rattle.std.specs.declared.result.Result.{Result}
use Rattle.std.specs.declared.result.Result.TheVariants.{Ok, Err}
use Rattle.iox2_machine.specs.declared.errors.SendError.{SendError}
use Rattle.iox2_machine.specs.declared.errors.SendError.TheVariants.{UnableToDeliver}
use Rattle.iox2_machine.specs.declared.key.Key.{Key}
use Rattle.iox2_messages.specs.SendEnds.{IsKept, end_result}
use Rattle.iox2_messages.specs.declared.send_end.SendEnd.{SendEnd}
use Rattle.iox2_pubsub.proofs.StaysBut.{same-boxes, IsSpared, SparedPublishers, stays-between}
use Rattle.iox2_pubsub.proofs.UnfailedSends.{IsMild, HasNotFailed, retry-unfailed, give-up-unfailed}
use Rattle.std.proofs.lemmas.Bool.{cases_eq}

module _ {T U : Type 0} (f : Fields T U) (sound : IsDomain f) (i p n : ℕ)
    (found : (x : PublisherFields) × (slice_index_or f.publishers i None ≡ Some x) × (x.id ≡ p))
    (held : HoldsBlocked (state_of (kept_of f)) p n) where
  -- the machine's publisher stands at the place
  same-port : held.0 ≡ (publisher_of f.books f.connections found.0).port
  same-port = same_Some _ _ (sym held.2 ∙ ap (state_of (kept_of f)).publishers (sym found.2)
      ∙ publisher-stands f sound.parts i found.0 found.1)

  pub some-waits : (d : BlockedDelivery) × ((found.0).blocked ≡ Some d) × (waiting_send f found.0 d ≡ held.1)
  some-waits = by (found.0).blocked refl where
    by : (o : Option BlockedDelivery) → (found.0).blocked ≡ o
        → (d : BlockedDelivery) × ((found.0).blocked ≡ Some d) × (waiting_send f found.0 d ≡ held.1)
    by None e =
        absurd (let no : None ≡ Some held.1 = sym
        (ap (option_map (blocked_send (number_in_slot f.books (found.0).id) (sender_ends f.connections (found.0).keys)))
        e) ∙ sym (ap (λ (x : Publisher). x.blocked) same-port) ∙ held.3 in cc)
    by (Some d) e =
        let both : Some (waiting_send f found.0 d) ≡ Some held.1 =
        sym (ap
        (option_map (blocked_send (number_in_slot f.books (found.0).id) (sender_ends f.connections (found.0).keys))) e)
        ∙ sym (ap (λ (x : Publisher). x.blocked) same-port) ∙ held.3 in
        (d, e, cc)

  -- so a delivery of it is blocked
  pub has-blocked : HasBlocked f i
  has-blocked = record { publisher = found.0; stands = found.1; blocked = (some-waits).0; waits = (some-waits).1 }

  -- what holds of it holds of the machine's
  pub as-machine : {F G : Type 0} {boxes : DomainBoxes F G} (kept : Kept T U F G) → keeping boxes f ≡ kept
      → (m : Messages T U) (s : State T U) → Shows kept m s → (x : Publisher) (b : BlockedSend)
      → s.publishers p ≡ Some x → x.blocked ≡ Some b
      → (P : State T U → ℕ → BlockedSend → Type 0)
      → P (state_of (kept_of f)) (found.0).id (waiting_send f found.0 (some-waits).0) → P s p b
  as-machine kept view m s shown x b at waits P holds =
      let is : state_of (kept_of f) ≡ s = ap state_of view ∙ sym shown.state in
      let one : held.0 ≡ x = same_Some held.0 x (sym held.2 ∙ ap (λ (t : State T U). t.publishers p) is ∙ at) in
      let same : held.1 ≡ b = same_Some held.1 b (sym held.3 ∙ ap (λ (z : Publisher). z.blocked) one ∙ waits) in
      subst (λ (t : State T U). P t p b) is
      (subst (P (state_of (kept_of f)) p) ((some-waits).2 ∙ same)
      (subst (λ (q : ℕ). P (state_of (kept_of f)) q (waiting_send f found.0 (some-waits).0)) found.2 holds))

-- ---- what the domain shows, and what stays

module _ {T U F G : Type 0} {boxes : DomainBoxes F G} (f g : Fields T U) (kept : Kept T U F G)
    (view : keeping boxes f ≡ kept) (m : Messages T U) (s : State T U) (shown : Shows kept m s) (p : ℕ)
    (result : SendResult) where
  here : Shows (kept_of f) m s
  here = subst (λ (k : Kept T U F G). Shows k m s) (sym view) shown

  -- no message is sent, and no loan changes
  goes-shown : IsDomain g → Advances s (state_of (kept_of g)) → (state_of (kept_of g)).loans ≡ s.loans
      → ((k : ℕ) (entry : Entry T U) → entries_of (kept_of g) k ≡ Some entry → entries_of (kept_of f) k ≡ Some entry)
      → Shows (kept_of g) m (state_of (kept_of g))
  goes-shown agrees rises loans entries = record {
    state = refl;
    well_formed = agrees.well_formed;
    entries = λ k entry e. here.entries k entry (entries k entry e);
    complete = agrees.entries;
    below = λ k le. let more = rises.next_message in here.below k (omega (arith, le, more));
    unsent = λ k loan e. here.unsent k loan (ap (λ (all : ℕ → Option (Loan T U)). all k) (sym loans) ∙ e);
  }

  goes-stays : IsDomain f → KeepsPlaces f g → Shows (kept_of g) m (state_of (kept_of g))
      → PortsRemain s (state_of (kept_of g)) → (state_of (kept_of g)).loans ≡ s.loans
      → Waits (IsSpared (A_blocked_send p)) s (state_of (kept_of g))
      → SparedPublishers (A_blocked_send p) kept s (state_of (kept_of g))
      → StaysBut (A_blocked_send p) kept (keeping boxes g)
  goes-stays sound places shown' remain loans waits goes-on =
      stays-between (A_blocked_send p) kept (keeping boxes g) m m s (state_of (kept_of g)) shown shown'
      (λ k entry at. at) (record {
        config = remain.config;
        publishers = λ q x at _. remain.publishers q x at;
        subscribers = λ q y at is_open _. remain.subscribers q y at is_open;
      })
      (λ k loan at _. ap (λ (all : ℕ → Option (Loan T U)). all k) loans ∙ at)
      (λ i j k at _. ap (λ (ns : List ℕ). is_borrowed k (record { waiting = []; borrowed = ns; others = [] }))
      (remain.borrowed i j) ∙ at) waits goes-on (same-boxes f g kept view sound places)

  -- the publisher is the one whose send is blocked
  spared-on : (x : Publisher) (b : BlockedSend) → s.publishers p ≡ Some x → x.blocked ≡ Some b
      → (IsMild s p → b.has_failed ≡ false → HasNotFailed (state_of (kept_of g)) p)
      → SparedPublishers (A_blocked_send p) kept s (state_of (kept_of g))
  spared-on x b at waits step = record {
    unfailed = λ q spared low mild none. elim (cases_eq q p) [
      | inr away ↦ absurd (spared away)
      | inl same ↦
          subst (HasNotFailed (state_of (kept_of g))) (sym same)
          (step (subst (IsMild s) same mild) (subst (HasNotFailed s) same none x b at waits))
    ];
    waits = λ key spared never. elim (cases_eq key.port p) [
      | inr away ↦ absurd (spared away)
      | inl same ↦
          let stands : (state_of kept).publishers key.port ≡ Some x =
          ap (state_of kept).publishers same ∙ ap (λ (t : State T U). t.publishers p) (sym shown.state) ∙ at in
          let clash : None ≡ Some b = sym ((unblocked-parts kept key never.unblocked).1 x stands) ∙ waits in
          absurd cc
    ];
  }

  spared : IsSpared (A_blocked_send p) p
  spared other = other refl

  module _ (environment : Environment) (x : Publisher) (b : BlockedSend) (at : s.publishers p ≡ Some x)
      (has : x.blocked ≡ Some b) (elapsed : Duration) (agrees : IsDomain g)
      (h : Retry environment s p b elapsed (state_of (kept_of g)) result)
      (entries : (k : ℕ) (entry : Entry T U) → entries_of (kept_of g) k ≡ Some entry
      → entries_of (kept_of f) k ≡ Some entry) where
    pub retry-shown : Shows (kept_of g) m (state_of (kept_of g))
    retry-shown = goes-shown agrees (retry_advances environment s p b elapsed _ result h)
        (retry_loans environment s p b elapsed _ result h) entries

    pub retry-stays : IsDomain f → KeepsPlaces f g → StaysBut (A_blocked_send p) kept (keeping boxes g)
    retry-stays sound places = goes-stays sound places retry-shown (retry_remains environment s p b elapsed _ result h)
        (retry_loans environment s p b elapsed _ result h)
        (retry_waits (IsSpared (A_blocked_send p)) p spared environment s b elapsed _ result h)
        (spared-on x b at has (λ mild none. (retry-unfailed environment s p b elapsed _ result mild none h).0))

  module _ (environment : Environment) (x : Publisher) (b : BlockedSend) (at : s.publishers p ≡ Some x)
      (has : x.blocked ≡ Some b) (agrees : IsDomain g) (h : GiveUp environment s p b (state_of (kept_of g)) result)
      (entries : (k : ℕ) (entry : Entry T U) → entries_of (kept_of g) k ≡ Some entry
      → entries_of (kept_of f) k ≡ Some entry) where
    pub give-up-shown : Shows (kept_of g) m (state_of (kept_of g))
    give-up-shown = goes-shown agrees (give_up_advances environment s p b _ result h)
        (give_up_loans environment s p b _ result h) entries

    pub give-up-stays : IsDomain f → KeepsPlaces f g → StaysBut (A_blocked_send p) kept (keeping boxes g)
    give-up-stays sound places = goes-stays sound places give-up-shown (give_up_remains environment s p b _ result h)
        (give_up_loans environment s p b _ result h)
        (give_up_waits (IsSpared (A_blocked_send p)) p spared environment s b _ result h)
        (spared-on x b at has (λ mild none. (give-up-unfailed environment s p b _ result mild none h).0))

-- ---- a send that isn't blocked again has freed its publisher

module _ {T U F G : Type 0} (new : Kept T U F G) (m : Messages T U) (s s' : State T U) (shown : Shows new m s') (p : ℕ)
    (x : Publisher) (b : BlockedSend) (stands : s.publishers p ≡ Some x)
    (result : SendResult) (free : result ≡ Blocked_send → ⊥) where
  freed : PortsRemain s s' → ((x' : Publisher) → s'.publishers p ≡ Some x' → x'.blocked ≡ None) → (key : Key)
      → key.port ≡ p → IsUnblocked new key
  freed remain frees key its =
      let there = remain.publishers p x stands in
      let IsFree : State T U → ℕ → Type 0 =
      λ t i. (i < t.next_port) × ((x' : Publisher) → t.publishers i ≡ Some x' → x'.blocked ≡ None) in
      unblocked-free new key (subst (λ (t : State T U). IsFree t key.port) shown.state (subst (IsFree s') (sym its)
      ((shown.well_formed.publishers p there.0 there.1).is_known, frees)))

  pub retry-frees-key : (environment : Environment) (elapsed : Duration) → Retry environment s p b elapsed s' result
      → (key : Key) → key.port ≡ p → IsUnblocked new key
  retry-frees-key environment elapsed h = freed (retry_remains environment s p b elapsed s' result h)
      (retry_frees environment s p b elapsed s' result free h)

  pub give-up-frees-key : (environment : Environment) → GiveUp environment s p b s' result → (key : Key) → key.port ≡ p
      → IsUnblocked new key
  give-up-frees-key environment h =
      freed (give_up_remains environment s p b s' result h) (give_up_frees environment s p b s' result free h)

-- the one error is that of a handler
pub only-undelivered : (end : SendEnd) → IsKept end → (result : Result SendOutcome SendError)
    → result_of_send result ≡ end_result end → IfErr result (λ error. error ≡ UnableToDeliver)
only-undelivered end kept (Ok came) is = tt
only-undelivered (SendEnd.Delivered count) kept (Err error) is =
    absurd (let clash : Send_error error ≡ Delivered_to count = is in cc)
only-undelivered SendEnd.Undelivered kept (Err error) is =
    let same : Send_error error ≡ Send_error UnableToDeliver = is in cc
only-undelivered SendEnd.Blocked kept (Err error) is = absurd (let clash : Send_error error ≡ Blocked_send = is in cc)
only-undelivered SendEnd.Lost kept (Err error) is = absurd kept
only-undelivered (SendEnd.Unconnected failure) kept (Err error) is = absurd kept
