-- What a run keeps of what its commands made, after one command more.
use Rattle.std.proofs.Common.{◌≡◌, ℕ, Bool, zero, suc, ◌≤◌, ◌<◌, true, false, List, [], ◌∷◌, ◌++◌, length, refl, sym}
use Rattle.std.proofs.Common.{ap, subst, ◌∙◌, Option, None, Some, ◌⊎◌, inl, inr, ⊎_elim, arith}
use Rattle.std.specs.Prelude.{◌≢◌, slice_get, slice_set}
use Rattle.std.proofs.lemmas.Bool.{true≢false, eq-eqb, cases_eq}
use Rattle.std.proofs.lemmas.Option.{none-some, same_Some, slice_get_within}
use Rattle.iox2_machine.specs.machine.Numbers.{contains, IsOnce}
use Rattle.iox2_machine.specs.machine.Mailbox.{is_borrowed}
use Rattle.iox2_machine.specs.machine.Records.{Loan, Publisher, Subscriber}
use Rattle.iox2_machine.specs.machine.SingleCalls.{HoldsBlocked}
use Rattle.iox2_machine.specs.machine.State.{State}
use Rattle.iox2_machine.specs.declared.service_config.ServiceConfig.{ServiceConfig}
use Rattle.iox2_commands.specs.Outcomes.{Handle, No_handle, Publisher_handle, Subscriber_handle, Loan_handle}
use Rattle.iox2_commands.specs.Outcomes.{Blocked_handle, Sample_handle, Event, Message_received}
use Rattle.iox2_commands.specs.Runs.{received}
use Rattle.iox2_runs.specs.Tables.{port_of, TableEntry, No_entry, Publisher_entry, Subscriber_entry, Unwritten_entry}
use Rattle.iox2_runs.specs.Tables.{Written_entry, Blocked_entry, Sample_entry, HasLoan, HasNoBox, HasNoReceiverBox}
use Rattle.iox2_runs.specs.Tables.{IsEntryOf, IsTable}
use Rattle.iox2_laws.proofs.NumberLemmas.{IsOnce-apart, contains_left, contains_right, contains_first}
use Rattle.iox2_commands.proofs.GrowingLists.{old_or_last, longer}
use Rattle.iox2_laws.proofs.PortsCome.{PortsCome}
use Rattle.iox2_laws.proofs.PortsStay.{Remain}
use Rattle.iox2_laws.proofs.Waits.{Waits}
use Rattle.iox2_commands.proofs.Order.{received-append}

-- No publisher waits otherwise than before.
abbrev pub Nobody : ℕ → Type 0
Nobody p = ⊥

-- The ports stay there but for one that is spent, and none comes back; each publisher has the handler that it had; each
-- send that is blocked stays so but for the one that goes on, and no other is.
pub record PortsKeep {T U : Type 0} (spent moved : Handle) (s s' : State T U) : Type 0 where
  pub config : s'.config ≡ s.config
  pub publishers : (p : ℕ) (x : Publisher) → (Publisher_handle p ≡ spent → ⊥) → s.publishers p ≡ Some x
      → (x' : Publisher) × (s'.publishers p ≡ Some x')
  pub subscribers : (q : ℕ) (y : Subscriber) → (Subscriber_handle q ≡ spent → ⊥) → s.subscribers q ≡ Some y
      → y.is_open ≡ true
      → (y' : Subscriber) × (s'.subscribers q ≡ Some y') × (y'.is_open ≡ true)
  pub next_port : s.next_port ≤ s'.next_port
  pub came : (p : ℕ) (x' : Publisher) → p < s.next_port → s'.publishers p ≡ Some x'
      → (x : Publisher) × (s.publishers p ≡ Some x) × (x'.backpressure_handler ≡ x.backpressure_handler)
      × (x'.degradation_handler ≡ x.degradation_handler)
  pub opened : (q : ℕ) (y' : Subscriber) → q < s.next_port → s'.subscribers q ≡ Some y' → y'.is_open ≡ true
      → (y : Subscriber) × (s.subscribers q ≡ Some y) × (y.is_open ≡ true)
      × (y'.degradation_handler ≡ y.degradation_handler)
  pub blocked : (p n : ℕ) → (Blocked_handle p n ≡ moved → ⊥) → p < s.next_port
      → (HoldsBlocked s p n → HoldsBlocked s' p n) × (HoldsBlocked s' p n → HoldsBlocked s p n)

-- Ids and numbers don't fall, and no loan that is out no more comes back.
pub record IsLater {T U : Type 0} (s s' : State T U) : Type 0 where
  pub next_port : s.next_port ≤ s'.next_port
  pub next_message : s.next_message ≤ s'.next_message
  pub lost : (n : ℕ) → n < s.next_message → s.loans n ≡ None → s'.loans n ≡ None

-- where loans that were out or lost are what they were
pub later_same : {T U : Type 0} (s s' : State T U) → s.next_port ≤ s'.next_port → s.next_message ≤ s'.next_message
    → ((n : ℕ) → n < s.next_message → s'.loans n ≡ s.loans n) → IsLater s s'
later_same s s' ports messages loans =
    record { next_port = ports; next_message = messages; lost = λ n low none. loans n low ∙ none }

-- where one loan that is out is set, or no more out
pub later_but : {T U : Type 0} (s s' : State T U) (k : ℕ) (l : Loan T U) → s.loans k ≡ Some l
    → s.next_port ≤ s'.next_port → s.next_message ≤ s'.next_message
    → ((n : ℕ) → n < s.next_message → (n ≡ k → ⊥) → s'.loans n ≡ s.loans n) → IsLater s s'
later_but s s' k l out ports messages loans = record {
  next_port = ports;
  next_message = messages;
  lost = λ n low none. loans n low (λ same. absurd (none-some l (sym (ap s.loans (sym same) ∙ none) ∙ out))) ∙ none;
}

-- What the handle names is new.
pub record IsNextHandle {T U : Type 0} (s s' : State T U) (handle : Handle) (event : Event T U) : Type 0 where
  pub port : (p : ℕ) → port_of handle ≡ Some p → (s.next_port ≤ p) × (p < s'.next_port)
  pub loan : (n : ℕ) → handle ≡ Loan_handle n → (s.next_message ≤ n) × (n < s'.next_message)
  pub sample : (p q n : ℕ) → handle ≡ Sample_handle p q n → event ≡ Message_received p q n
  pub blocked : (p n : ℕ) → handle ≡ Blocked_handle p n
      → (p < s'.next_port) × (n < s'.next_message) × (s'.loans n ≡ None) × (n < s.next_message → s.loans n ≡ None → ⊥)

-- nothing is
pub no_next : {T U : Type 0} (s s' : State T U) (event : Event T U) → IsNextHandle s s' No_handle event
no_next s s' event = record {
  port = λ p e. absurd (none-some p e);
  loan = λ n e. let clash : No_handle ≡ Loan_handle n = e in absurd (cc);
  sample = λ p q n e. let clash : No_handle ≡ Sample_handle p q n = e in absurd (cc);
  blocked = λ p n e. let clash : No_handle ≡ Blocked_handle p n = e in absurd (cc);
}

-- a loan is
pub next_loan : {T U : Type 0} {event : Event T U} (s s' : State T U) → s.next_message < s'.next_message
    → IsNextHandle s s' (Loan_handle s.next_message) event
next_loan s s' more = record {
  port = λ p e. absurd (none-some p e);
  loan = λ n e. let same : s.next_message ≡ n = cc in (omega (arith, same), omega (arith, same, more));
  sample = λ p q n e. let clash : Loan_handle s.next_message ≡ Sample_handle p q n = e in absurd (cc);
  blocked = λ p n e. let clash : Loan_handle s.next_message ≡ Blocked_handle p n = e in absurd (cc);
}

module _ {T U : Type 0} (Spared : ℕ → Type 0) (s s' : State T U) (waits : Waits Spared s s')
    (stay : (p : ℕ) (x : Publisher) → s.publishers p ≡ Some x → (x' : Publisher) × (s'.publishers p ≡ Some x')) where
  -- who isn't spared waits as before
  pub waits_still : (p n : ℕ) → (Spared p → ⊥) → p < s.next_port
      → (HoldsBlocked s p n → HoldsBlocked s' p n) × (HoldsBlocked s' p n → HoldsBlocked s p n)
  waits_still p n apart low = (
    λ has.
        let there = stay p has.0 has.2 in
        let was = waits.publishers p there.0 low there.1 in
        let same : was.0 ≡ has.0 = same_Some was.0 has.0 (sym was.1 ∙ has.2) in
        (there.0, has.1, there.1, (was.2).blocked apart ∙ ap (λ (x : Publisher). x.blocked) same ∙ has.3, has.4),
    λ has. let was = waits.publishers p has.0 low has.2 in
        (was.0, has.1, was.1, sym ((was.2).blocked apart) ∙ has.3, has.4),
  )

-- where all ports remain
pub ports-keep : {T U : Type 0} (spent moved : Handle) (s s' : State T U) → Remain s s' → PortsCome s s'
    → Waits Nobody s s' → PortsKeep spent moved s s'
ports-keep spent moved s s' remain come waits = record {
  config = remain.config;
  publishers = λ p x other there. let v = remain.publishers p x there in (v.0, v.1);
  subscribers = λ q y other there is_open. remain.subscribers q y there is_open;
  next_port = come.next_port;
  came = λ p x' low there. let v = waits.publishers p x' low there in (v.0, v.1, (v.2).handler, (v.2).degradation);
  opened = come.subscribers;
  blocked = λ p n _ low. waits_still Nobody s s' waits
      (λ p x there. let v = remain.publishers p x there in (v.0, v.1)) p n (λ nobody. nobody) low;
}

-- one step after another
pub keep-trans : {T U : Type 0} (spent moved : Handle) (s mid s' : State T U) → PortsKeep spent moved s mid
    → PortsKeep spent moved mid s' → PortsKeep spent moved s s'
keep-trans spent moved s mid s' a b = record {
  config = b.config ∙ a.config;
  publishers = λ p x other there. let v = a.publishers p x other there in b.publishers p v.0 other v.1;
  subscribers = λ q y other there is_open. let v = a.subscribers q y other there is_open in
      b.subscribers q v.0 other v.1 v.2;
  next_port = (let first = a.next_port in let second = b.next_port in omega (arith, first, second));
  came = λ p x' low there.
      let up = a.next_port in
      let v = b.came p x' (omega (arith, low, up)) there in
      let u = a.came p v.0 low v.1 in (u.0, u.1, v.2 ∙ u.2, v.3 ∙ u.3);
  opened = λ q y' low there is_open.
      let up = a.next_port in
      let v = b.opened q y' (omega (arith, low, up)) there is_open in
      let u = a.opened q v.0 low v.1 v.2 in (u.0, u.1, u.2, v.3 ∙ u.3);
  blocked = λ p n other low.
      let up = a.next_port in
      let first = a.blocked p n other low in
      let second = b.blocked p n other (omega (arith, low, up)) in
      (λ has. second.0 (first.0 has), λ has. first.1 (second.1 has));
}

module _ {T U : Type 0} (spent moved : Handle) (s s' : State T U) (keep : PortsKeep spent moved s s') where
  same : {service : ℕ} → service ≡ (s.config).service_id → service ≡ (s'.config).service_id
  same e = e ∙ sym (ap (λ (c : ServiceConfig). c.service_id) keep.config)

  -- a publisher that isn't there doesn't come back
  gone : (p : ℕ) → p < s.next_port → s.publishers p ≡ None → s'.publishers p ≡ None
  gone p low none = by (s'.publishers p) refl where
    by : (o : Option Publisher) → s'.publishers p ≡ o → s'.publishers p ≡ None
    by None there = there
    by (Some x) there = let before = keep.came p x low there in absurd (none-some before.0 (sym none ∙ before.1))

  -- nor does one get a box
  boxless : {p : ℕ} → p < s.next_port → HasNoBox s p → HasNoBox s' p
  boxless {p} low none x there =
      let was = keep.came p x low there in
      let had = none was.0 was.1 in (λ boxed. had.0 (sym was.2 ∙ boxed), λ boxed. had.1 (sym was.3 ∙ boxed))

  -- nor does an open subscriber
  receiver-boxless : {q : ℕ} → q < s.next_port → HasNoReceiverBox s q → (y : Subscriber) → s'.subscribers q ≡ Some y
      → y.is_open ≡ true → HasNoReceiverBox s' q
  receiver-boxless {q} low none y there is_open z at boxed =
      let same : z ≡ y = same_Some z y (sym at ∙ there) in
      let was = keep.opened q y low there is_open in
      none was.0 was.1 (sym was.3 ∙ ap (λ (w : Subscriber). w.degradation_handler) (sym same) ∙ boxed)

  -- nor is a subscriber opened
  shut : (q : ℕ) → q < s.next_port → ((y : Subscriber) → s.subscribers q ≡ Some y → y.is_open ≡ false)
      → (y : Subscriber) → s'.subscribers q ≡ Some y → y.is_open ≡ false
  shut q low closed y there = by y.is_open refl where
    by : (b : Bool) → y.is_open ≡ b → y.is_open ≡ false
    by false is = is
    by true is = let before = keep.opened q y low there is in
        absurd (true≢false (sym before.2 ∙ closed before.0 before.1))

  pub loan_kept : {p n : ℕ} {is_written : Bool} → s'.loans n ≡ s.loans n → HasLoan s p n is_written
      → HasLoan s' p n is_written
  loan_kept {p} e h = (
    ((h.0).0, e ∙ (h.0).1, (h.0).2, (h.0).3),
    (let low = h.1 in let rises = keep.next_port in omega (arith, low, rises)),
  )

  -- an entry of a handle that isn't spent is one still, where what it names is kept
  pub still_entry : (handle : Handle) (entry : TableEntry)
      → ((n : ℕ) → handle ≡ Loan_handle n → s'.loans n ≡ s.loans n)
      → ((p q n : ℕ) → handle ≡ Sample_handle p q n
      → is_borrowed n (s'.mailboxes p q) ≡ is_borrowed n (s.mailboxes p q))
      → ((p : ℕ) → port_of handle ≡ Some p → (p < s.next_port) × (handle ≡ spent → ⊥))
      → ((p n : ℕ) → handle ≡ Blocked_handle p n → (p < s.next_port) × (handle ≡ moved → ⊥))
      → IsEntryOf s handle entry → IsEntryOf s' handle entry
  still_entry No_handle No_entry loans samples ports sends h = h
  still_entry (Publisher_handle p) No_entry loans samples ports sends h = gone p (ports p refl).0 h
  still_entry (Subscriber_handle q) No_entry loans samples ports sends h = shut q (ports q refl).0 h
  still_entry (Loan_handle n) No_entry loans samples ports sends h = loans n refl ∙ h
  still_entry (Blocked_handle p n) No_entry loans samples ports sends h = λ has. let known = sends p n refl in
      h ((keep.blocked p n known.1 known.0).1 has)
  still_entry (Sample_handle p q n) No_entry loans samples ports sends h = samples p q n refl ∙ h
  still_entry named (Publisher_entry service p) loans samples ports sends h =
      let other = (ports p (ap port_of h.1)).1 in
      let v = keep.publishers p h.2 (λ e. other (h.1 ∙ e)) h.3 in
      (same h.0, h.1, v.0, v.1, boxless (ports p (ap port_of h.1)).0 h.4)
  still_entry named (Subscriber_entry service q) loans samples ports sends h =
      let other = (ports q (ap port_of h.1)).1 in
      let v = keep.subscribers q h.2 (λ e. other (h.1 ∙ e)) h.3 h.4 in
      (same h.0, h.1, v.0, v.1, v.2, receiver-boxless (ports q (ap port_of h.1)).0 h.5 v.0 v.1 v.2)
  still_entry named (Unwritten_entry service p n) loans samples ports sends h =
      (same h.0, h.1, loan_kept (loans n h.1) h.2, boxless (h.2).1 h.3)
  still_entry named (Written_entry service p n) loans samples ports sends h =
      (same h.0, h.1, loan_kept (loans n h.1) h.2, boxless (h.2).1 h.3)
  still_entry named (Blocked_entry service p n) loans samples ports sends h =
      let known = sends p n h.1 in
      (same h.0, h.1, (keep.blocked p n (λ e. known.1 (h.1 ∙ e)) known.0).0 h.2, boxless known.0 h.3)
  still_entry named (Sample_entry service p q n) loans samples ports sends h = (same h.0, h.1, samples p q n h.1 ∙ h.2)

set_here : {A : Type 0} (xs : List A) (i : ℕ) (x : A) → i < length xs → slice_get (slice_set xs i x) i ≡ Some x
set_here [] i x low = absurd (omega arith)
set_here (y ∷ xs) zero x low = refl
set_here (y ∷ xs) (suc i) x low = set_here xs i x (omega arith)

set_away : {A : Type 0} (xs : List A) (i : ℕ) (x : A) (k : ℕ) → k ≢ i → slice_get (slice_set xs i x) k ≡ slice_get xs k
set_away [] i x k away = refl
set_away (y ∷ xs) zero x zero away = absurd (away refl)
set_away (y ∷ xs) zero x (suc k) away = refl
set_away (y ∷ xs) (suc i) x zero away = refl
set_away (y ∷ xs) (suc i) x (suc k) away = set_away xs i x k (λ e. away (ap suc e))

-- what was received before isn't received now
pub not_again : {T U : Type 0} (s : State T U) (handles : List Handle) (events : List (Event T U))
    (table : List TableEntry) → IsTable s handles events table
    → (p q n : ℕ) → IsOnce (received p q (events ++ Message_received p q n ∷ [])) → (i : ℕ)
    → slice_get handles i ≡ Some (Sample_handle p q n) → ⊥
not_again {T} {U} s handles events table w p q n once i before =
    let new : List (Event T U) = Message_received p q n ∷ [] in
    let now : contains (received p q new) n ≡ true = rw (eq-eqb p p refl, eq-eqb q q refl) (contains_first n []) in
    let apart : contains (received p q new) n ≡ false =
    IsOnce-apart (received p q events) (received p q new) (subst IsOnce (received-append p q events new) once) n
    (w.samples_received i p q n before) in
    true≢false (sym now ∙ apart)

module _ {T U : Type 0} (s s' : State T U) (handles : List Handle) (events : List (Event T U)) (table : List TableEntry)
    (w : IsTable s handles events table)
    (handle : Handle) (event : Event T U) (entry : TableEntry) (table' : List TableEntry) where
  -- the table has one entry more, and its old entries are kept still
  pub table_next : IsLater s s' → length table' ≡ length table
      → ((i : ℕ) (h : Handle) (e : TableEntry) → slice_get handles i ≡ Some h → slice_get table' i ≡ Some e
      → IsEntryOf s' h e)
      → IsEntryOf s' handle entry
      → IsNextHandle s s' handle event
      → ((p q : ℕ) → IsOnce (received p q (events ++ event ∷ [])))
      → IsTable s' (handles ++ handle ∷ []) (events ++ event ∷ []) (table' ++ entry ∷ [])
  table_next later same_length old new next once = record {
    count = longer table' entry ∙ ap suc (same_length ∙ w.count) ∙ sym (longer handles handle);
    entries = λ i h e at_h at_e. ⊎_elim
        (λ in_handles. ⊎_elim (λ in_table. old i h e in_handles in_table)
        (λ last. let low : i < length handles = slice_get_within handles i h in_handles in
        let high : i ≡ length table' = last.0 in absurd (omega (arith, same_length, w.count)))
        (old_or_last table' entry i e at_e))
        (λ last. ⊎_elim
        (λ in_table. let low : i < length table' = slice_get_within table' i e in_table in
        let high : i ≡ length handles = last.0 in absurd (omega (arith, same_length, w.count)))
        (λ last_entry. subst (λ (v : Handle). IsEntryOf s' v e) last.1 (subst (IsEntryOf s' handle) last_entry.1 new))
        (old_or_last table' entry i e at_e))
        (old_or_last handles handle i h at_h);
    ports_below = λ i p h at named. ⊎_elim (λ before. let low : p < s.next_port = w.ports_below i p h before named in
        let up = later.next_port in omega (arith, low, up))
        (λ last. (next.port p (ap port_of last.1 ∙ named)).1) (old_or_last handles handle i h at);
    ports_apart = λ i j p h h' at_i at_j named_i named_j. apart_ports i j p h h' named_i named_j
        (old_or_last handles handle i h at_i) (old_or_last handles handle j h' at_j);
    loans_below = λ i n at. ⊎_elim (λ before. let low : n < s.next_message = w.loans_below i n before in
        let up = later.next_message in omega (arith, low, up)) (λ last. (next.loan n last.1).1)
        (old_or_last handles handle i (Loan_handle n) at);
    loans_apart = λ i j n at_i at_j. apart_loans i j n (old_or_last handles handle i (Loan_handle n) at_i)
        (old_or_last handles handle j (Loan_handle n) at_j);
    blocked_sent = λ i p n at. ⊎_elim
        (λ before.
        let was = w.blocked_sent i p n before in (
          (let low = was.0 in let up = later.next_port in omega (arith, low, up)),
          (let low = was.1 in let up = later.next_message in omega (arith, low, up)),
          later.lost n was.1 was.2,
        ))
        (λ last. let is = next.blocked p n last.1 in (is.0, is.1, is.2))
        (old_or_last handles handle i (Blocked_handle p n) at);
    blocked_apart = λ i j p n at_i at_j. apart_blocked i j p n (old_or_last handles handle i (Blocked_handle p n) at_i)
        (old_or_last handles handle j (Blocked_handle p n) at_j);
    samples_received = λ i p q n at. ⊎_elim
        (λ before. subst (λ ns. contains ns n ≡ true) (sym (received-append p q events (event ∷ [])))
        (contains_left (received p q events) (received p q (event ∷ [])) n (w.samples_received i p q n before)))
        (λ last. was_received p q n (next.sample p q n last.1))
        (old_or_last handles handle i (Sample_handle p q n) at);
    samples_apart = λ i j p q n at_i at_j. apart_samples i j p q n
        (old_or_last handles handle i (Sample_handle p q n) at_i)
        (old_or_last handles handle j (Sample_handle p q n) at_j);
  } where
    apart_ports : (i j p : ℕ) (h h' : Handle) → port_of h ≡ Some p → port_of h' ≡ Some p
        → (slice_get handles i ≡ Some h) ⊎ ((i ≡ length handles) × (handle ≡ h))
        → (slice_get handles j ≡ Some h') ⊎ ((j ≡ length handles) × (handle ≡ h')) → i ≡ j
    apart_ports i j p h h' named_i named_j (inl a) (inl b) = w.ports_apart i j p h h' a b named_i named_j
    apart_ports i j p h h' named_i named_j (inl a) (inr b) =
        let low : p < s.next_port = w.ports_below i p h a named_i in
        let high : s.next_port ≤ p = (next.port p (ap port_of b.1 ∙ named_j)).0 in absurd (omega arith)
    apart_ports i j p h h' named_i named_j (inr a) (inl b) =
        let low : p < s.next_port = w.ports_below j p h' b named_j in
        let high : s.next_port ≤ p = (next.port p (ap port_of a.1 ∙ named_i)).0 in absurd (omega arith)
    apart_ports i j p h h' named_i named_j (inr a) (inr b) = a.0 ∙ sym b.0

    apart_loans : (i j n : ℕ)
        → (slice_get handles i ≡ Some (Loan_handle n)) ⊎ ((i ≡ length handles) × (handle ≡ Loan_handle n))
        → (slice_get handles j ≡ Some (Loan_handle n)) ⊎ ((j ≡ length handles) × (handle ≡ Loan_handle n)) → i ≡ j
    apart_loans i j n (inl a) (inl b) = w.loans_apart i j n a b
    apart_loans i j n (inl a) (inr b) = let low : n < s.next_message = w.loans_below i n a in
        let high : s.next_message ≤ n = (next.loan n b.1).0 in absurd (omega arith)
    apart_loans i j n (inr a) (inl b) = let low : n < s.next_message = w.loans_below j n b in
        let high : s.next_message ≤ n = (next.loan n a.1).0 in absurd (omega arith)
    apart_loans i j n (inr a) (inr b) = a.0 ∙ sym b.0

    again : (i p n : ℕ) → slice_get handles i ≡ Some (Blocked_handle p n) → handle ≡ Blocked_handle p n → ⊥
    again i p n before now = let was = w.blocked_sent i p n before in (next.blocked p n now).3 was.1 was.2

    apart_blocked : (i j p n : ℕ)
        → (slice_get handles i ≡ Some (Blocked_handle p n)) ⊎ ((i ≡ length handles) × (handle ≡ Blocked_handle p n))
        → (slice_get handles j ≡ Some (Blocked_handle p n)) ⊎ ((j ≡ length handles) × (handle ≡ Blocked_handle p n))
        → i ≡ j
    apart_blocked i j p n (inl a) (inl b) = w.blocked_apart i j p n a b
    apart_blocked i j p n (inl a) (inr b) = absurd (again i p n a b.1)
    apart_blocked i j p n (inr a) (inl b) = absurd (again j p n b a.1)
    apart_blocked i j p n (inr a) (inr b) = a.0 ∙ sym b.0

    received_now : (p q n : ℕ) → event ≡ Message_received p q n → contains (received p q (event ∷ [])) n ≡ true
    received_now p q n e =
        subst (λ (v : Event T U). contains (received p q (v ∷ [])) n ≡ true) (sym e)
        (rw (eq-eqb p p refl, eq-eqb q q refl) (contains_first n []))

    was_received : (p q n : ℕ) → event ≡ Message_received p q n
        → contains (received p q (events ++ event ∷ [])) n ≡ true
    was_received p q n e =
        subst (λ ns. contains ns n ≡ true) (sym (received-append p q events (event ∷ [])))
        (contains_right (received p q events) (received p q (event ∷ [])) n (received_now p q n e))

    twice : (i p q n : ℕ) → slice_get handles i ≡ Some (Sample_handle p q n) → handle ≡ Sample_handle p q n → ⊥
    twice i p q n before now =
        not_again s handles events table w p q n (subst (λ (v : Event T U). IsOnce (received p q (events ++ v ∷ [])))
        (next.sample p q n now) (once p q)) i before

    apart_samples : (i j p q n : ℕ)
        → (slice_get handles i ≡ Some (Sample_handle p q n)) ⊎ ((i ≡ length handles) × (handle ≡ Sample_handle p q n))
        → (slice_get handles j ≡ Some (Sample_handle p q n)) ⊎ ((j ≡ length handles) × (handle ≡ Sample_handle p q n))
        → i ≡ j
    apart_samples i j p q n (inl a) (inl b) = w.samples_apart i j p q n a b
    apart_samples i j p q n (inl a) (inr b) = absurd (twice i p q n a b.1)
    apart_samples i j p q n (inr a) (inl b) = absurd (twice j p q n b a.1)
    apart_samples i j p q n (inr a) (inr b) = a.0 ∙ sym b.0

module _ {T U : Type 0} (s s' : State T U) (handles : List Handle) (events : List (Event T U)) (table : List TableEntry)
    (w : IsTable s handles events table) where
  -- every entry is one still, where no blocked send of the table goes on
  pub all_kept : (moved : Handle) → PortsKeep No_handle moved s s'
      → ((i p n : ℕ) → slice_get handles i ≡ Some (Blocked_handle p n) → Blocked_handle p n ≡ moved → ⊥)
      → ((n : ℕ) → n < s.next_message → s'.loans n ≡ s.loans n)
      → ((i p q n : ℕ) → slice_get handles i ≡ Some (Sample_handle p q n)
      → is_borrowed n (s'.mailboxes p q) ≡ is_borrowed n (s.mailboxes p q))
      → (i : ℕ) (h : Handle) (e : TableEntry) → slice_get handles i ≡ Some h → slice_get table i ≡ Some e
      → IsEntryOf s' h e
  all_kept moved keep unmoved loans samples i h e at_h at_e =
      still_entry No_handle moved s s' keep h e
      (λ n is. loans n (w.loans_below i n (at_h ∙ ap Some is)))
      (λ p q n is. samples i p q n (at_h ∙ ap Some is))
      (λ p named. (
        w.ports_below i p h at_h named,
        λ none. let clash : None ≡ Some p = ap port_of (sym none) ∙ named in
            absurd cc,
      ))
      (λ p n is. ((w.blocked_sent i p n (at_h ∙ ap Some is)).0, λ e. unmoved i p n (at_h ∙ ap Some is) (sym is ∙ e)))
      (w.entries i h e at_h at_e)

  pub all_still : Remain s s' → PortsCome s s' → Waits Nobody s s'
      → ((n : ℕ) → n < s.next_message → s'.loans n ≡ s.loans n)
      → ((i p q n : ℕ) → slice_get handles i ≡ Some (Sample_handle p q n)
      → is_borrowed n (s'.mailboxes p q) ≡ is_borrowed n (s.mailboxes p q))
      → (i : ℕ) (h : Handle) (e : TableEntry) → slice_get handles i ≡ Some h → slice_get table i ≡ Some e
      → IsEntryOf s' h e
  all_still remain come waits =
      all_kept No_handle (ports-keep No_handle No_handle s s' remain come waits)
      (λ i p n _ is. let clash : Blocked_handle p n ≡ No_handle = is in absurd cc)

  -- every entry but one is one still, and in the place of that one is this now
  pub others_kept : (of : ℕ) (named moved : Handle) (entry : TableEntry) → PortsKeep named moved s s'
      → ((i p n : ℕ) → slice_get handles i ≡ Some (Blocked_handle p n) → (i ≡ of → ⊥) → Blocked_handle p n ≡ moved → ⊥)
      → slice_get handles of ≡ Some named → IsEntryOf s' named entry
      → ((n : ℕ) → n < s.next_message → (named ≡ Loan_handle n → ⊥) → s'.loans n ≡ s.loans n)
      → ((i p q n : ℕ) → slice_get handles i ≡ Some (Sample_handle p q n) → (named ≡ Sample_handle p q n → ⊥)
      → is_borrowed n (s'.mailboxes p q) ≡ is_borrowed n (s.mailboxes p q))
      → (i : ℕ) (h : Handle) (e : TableEntry) → slice_get handles i ≡ Some h
      → slice_get (slice_set table of entry) i ≡ Some e → IsEntryOf s' h e
  others_kept of named moved entry keep unmoved at_of now loans samples i h e at_h at_e = elim (cases_eq i of) [
    | inl here ↦
        let same_handle : named ≡ h =
        same_Some named h (sym at_of ∙ sym (ap (λ (k : ℕ). slice_get handles k) here) ∙ at_h) in
        let same_entry : entry ≡ e =
        same_Some entry e (sym (set_here table of entry (in_table here at_h))
        ∙ sym (ap (λ (k : ℕ). slice_get (slice_set table of entry) k) here) ∙ at_e) in
        subst (λ (v : Handle). IsEntryOf s' v e) same_handle (subst (IsEntryOf s' named) same_entry now)
    | inr away ↦
        still_entry named moved s s' keep h e
        (λ n is. loans n (w.loans_below i n (at_h ∙ ap Some is))
        (λ again. away (w.loans_apart i of n (at_h ∙ ap Some is) (at_of ∙ ap Some again))))
        (λ p q n is. samples i p q n (at_h ∙ ap Some is)
        (λ again. away (w.samples_apart i of p q n (at_h ∙ ap Some is) (at_of ∙ ap Some again))))
        (λ p is. (
          w.ports_below i p h at_h is,
          λ again. away (w.ports_apart i of p h named at_h at_of is (ap port_of (sym again) ∙ is)),
        ))
        (λ p n is.
        ((w.blocked_sent i p n (at_h ∙ ap Some is)).0, λ e. unmoved i p n (at_h ∙ ap Some is) away (sym is ∙ e)))
        (w.entries i h e at_h (sym (set_away table of entry i away) ∙ at_e))
  ] where
    in_table : i ≡ of → slice_get handles i ≡ Some h → of < length table
    in_table here at = let low : i < length handles = slice_get_within handles i h at in omega (arith, here, w.count)

  pub others_still : (of : ℕ) (named : Handle) (entry : TableEntry) → PortsKeep named No_handle s s'
      → slice_get handles of ≡ Some named → IsEntryOf s' named entry
      → ((n : ℕ) → n < s.next_message → (named ≡ Loan_handle n → ⊥) → s'.loans n ≡ s.loans n)
      → ((i p q n : ℕ) → slice_get handles i ≡ Some (Sample_handle p q n) → (named ≡ Sample_handle p q n → ⊥)
      → is_borrowed n (s'.mailboxes p q) ≡ is_borrowed n (s.mailboxes p q))
      → (i : ℕ) (h : Handle) (e : TableEntry) → slice_get handles i ≡ Some h
      → slice_get (slice_set table of entry) i ≡ Some e → IsEntryOf s' h e
  others_still of named entry keep =
      others_kept of named No_handle entry keep
      (λ i p n _ _ is. let clash : Blocked_handle p n ≡ No_handle = is in absurd cc)
