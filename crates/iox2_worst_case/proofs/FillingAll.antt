-- The commands that fill every slot: each of their runs grants all of them and ends with the worst case, or refuses a
-- loan early.
use Rattle.std.proofs.Common.{◌≡◌, ℕ, zero, suc, ◌+◌, ◌*◌, ◌-◌, ◌≤◌, ◌<◌, Bool, true, false, List, [], ◌∷◌, ◌++◌}
use Rattle.std.proofs.Common.{length, min, refl, sym, ap, subst, ◌∙◌, arith, Option, Some, ⊎_elim, inl, inr, replicate}
use Rattle.std.specs.Prelude.{slice_get}
use Rattle.std.specs.List.{flat_map}
use Rattle.std.proofs.lemmas.List.{length-append}
use Rattle.iox2_machine.specs.machine.Limits.{buffer_limit, channel_count, worst_case, last_number}
use Rattle.iox2_machine.specs.machine.Numbers.{put_at, contains, last_n, size, IsOnce}
use Rattle.iox2_machine.specs.machine.Places.{occupants}
use Rattle.iox2_machine.specs.machine.Mailbox.{Mailbox, other_numbers, numbers_in, has_numbers, with_waiting}
use Rattle.iox2_machine.specs.machine.State.{State, held}
use Rattle.iox2_machine.specs.machine.WellFormed.{MailboxIsWellFormed}
use Rattle.iox2_machine.specs.declared.service_config.ServiceConfig.{ServiceConfig}
use Rattle.iox2_laws.proofs.Puts.{put_at-same}
use Rattle.iox2_laws.proofs.Sizes.{size_is}
use Rattle.iox2_laws.proofs.NumberLemmas.{false_from, absent_from, contains_in_append, contains_in_flat_map}
use Rattle.iox2_laws.proofs.NumberLemmas.{IsOnce-append}
use Rattle.iox2_laws.proofs.MailboxLemmas.{nothing_anywhere}
use Rattle.iox2_commands.specs.Outcomes.{Handle, Publisher_handle, Subscriber_handle}
use Rattle.iox2_worst_case.specs.Fills.{is_granted}
use Rattle.iox2_worst_case.specs.FillingCommands.{loan_command, sends, rounds, subscriber_filled, subscribers_filled}
use Rattle.iox2_worst_case.specs.FillingCommands.{filling_length}
use Rattle.iox2_commands.specs.declared.command.Command.{Command}
use Rattle.iox2_commands.proofs.GrowingLists.{found_earlier}
use Rattle.iox2_worst_case.proofs.FillingNumbers.{numbers_from, length-numbers_from, within_numbers_from}
use Rattle.iox2_worst_case.proofs.FillingNumbers.{IsOnce-numbers_from, ports_from, occupants-ports_from, recent}
use Rattle.iox2_worst_case.proofs.FillingNumbers.{length-flat_map_each}
use Rattle.iox2_worst_case.proofs.FillingRuns.{Leads, leads_append, leads_further}
use Rattle.iox2_worst_case.proofs.FillingShape.{filler, IsFilling, handle_new, named_next}
use Rattle.iox2_worst_case.proofs.FillingLoans.{IsLoanedOutcome, loan_step}
use Rattle.iox2_worst_case.proofs.FillingUpdates.{IsUpdatedOutcome, update_step}
use Rattle.iox2_worst_case.proofs.FillingPorts.{IsMade, subscriber_step}
use Rattle.iox2_worst_case.proofs.FillingBoxes.{AreFull, IsOpening, full_kept, one_more_full, opening_served}
use Rattle.iox2_worst_case.proofs.FillingSteps.{IsFull, IsServing, full_sends, serving_sends, serving_rounds}

-- how many messages are sent for one subscriber
abbrev pub sends_each : ServiceConfig → ℕ
sends_each c = c.subscriber_max_borrowed_samples + buffer_limit c + c.history_size

-- the worst case of connections with one channel
pub one_channel : (c : ServiceConfig) (n : ℕ) → channel_count c ≡ 1
    → c.max_subscribers * (buffer_limit c + c.subscriber_max_borrowed_samples) + c.history_size + n ≡ worst_case c n
one_channel c n single =
    let most : ℕ = buffer_limit c + c.subscriber_max_borrowed_samples in
    let once : c.max_subscribers ≡ c.max_subscribers * 1 = omega arith in
    ap (λ k. k * most + c.history_size + n) once
    ∙ ap (λ k. c.max_subscribers * k * most + c.history_size + n) (sym single)

-- ---- all that the publisher holds

-- the loans that are out, the history and all mailboxes
abbrev pub all_numbers : ServiceConfig → (ℕ → Mailbox) → (made sent out : ℕ) → List ℕ
all_numbers c boxes made sent out = (numbers_from (suc sent) out ++ recent c.history_size sent) ++ flat_map
    (λ q. numbers_in (boxes q)) (numbers_from 2 made)

-- no number stands there twice
IsOnce-all_numbers : (c : ServiceConfig) (boxes : ℕ → Mailbox) (made bound sent out : ℕ) → AreFull c boxes made bound
    → bound ≤ suc (sent - c.history_size)
    → IsOnce (all_numbers c boxes made sent out)
IsOnce-all_numbers c boxes made bound sent out f apart =
    let first : ℕ = suc (sent - c.history_size) in
    let count : ℕ = min c.history_size sent in
    IsOnce-append (numbers_from (suc sent) out ++ numbers_from first count)
    (flat_map (λ q. numbers_in (boxes q)) (numbers_from 2 made))
    (IsOnce-append (numbers_from (suc sent) out) (numbers_from first count) (IsOnce-numbers_from (suc sent) out)
    (IsOnce-numbers_from first count) (λ n here.
    absent_from (numbers_from first count) n (λ there.
    let a : (suc sent ≤ n) × (n < suc sent + out) = within_numbers_from (suc sent) out n here in
    let b : (first ≤ n) × (n < first + count) = within_numbers_from first count n there in
    omega (arith, a.0, b.1))))
    f.once
    (λ n here. absent_from (flat_map (λ q. numbers_in (boxes q)) (numbers_from 2 made)) n (λ there.
    let found : (q : ℕ) × (contains (numbers_from 2 made) q ≡ true) × (contains (numbers_in (boxes q)) n ≡ true) =
    contains_in_flat_map
    (λ q. numbers_in (boxes q)) (numbers_from 2 made) n there in
    let within : (2 ≤ found.0) × (found.0 < 2 + made) = within_numbers_from 2 made found.0 found.1 in
    let low : n < bound = f.below found.0 n within.0 within.1 found.2 in
    ⊎_elim
    (λ k. let a : (suc sent ≤ n) × (n < suc sent + out) = within_numbers_from (suc sent) out n k in omega (arith, a.0))
    (λ k. let b : (first ≤ n) × (n < first + count) = within_numbers_from first count n k in omega (arith, b.0))
    (contains_in_append (numbers_from (suc sent) out) (numbers_from first count) n here)))

-- with a full history they are as many as the worst case
length-all_numbers : (c : ServiceConfig) (boxes : ℕ → Mailbox) (made bound sent out : ℕ) → AreFull c boxes made bound
    → c.history_size ≤ sent
    → length (all_numbers c boxes made sent out) ≡ made * (buffer_limit c + c.subscriber_max_borrowed_samples)
    + c.history_size + out
length-all_numbers c boxes made bound sent out f enough =
    let each : ℕ = buffer_limit c + c.subscriber_max_borrowed_samples in
    let first : ℕ = suc (sent - c.history_size) in
    let count : ℕ = min c.history_size sent in
    let lists : List ℕ = flat_map (λ q. numbers_in (boxes q)) (numbers_from 2 made) in
    omega (
      arith,
      length-append (numbers_from (suc sent) out ++ numbers_from first count) lists,
      length-append (numbers_from (suc sent) out) (numbers_from first count),
      length-numbers_from (suc sent) out,
      length-numbers_from first count,
      length-flat_map_each (λ q. numbers_in (boxes q)) each 2 made (λ q low high.
          omega (
            arith,
            ap (λ (os : List ℕ). length (os ++ ((boxes q).waiting ++ (boxes q).borrowed))) (f.single q low high),
            length-append (boxes q).waiting (boxes q).borrowed,
            f.waits q low high,
            f.borrows q low high,
          )),
    )

module _ {T U : Type 0} (c : ServiceConfig) (most available : ℕ) (value : T) (some : 0 < most)
    (units : c.units_per_element ≡ 1)
    (keeps : c.enable_safe_overflow ≡ false) where
  -- So far all subscribers are full, and no number of the history stands in a mailbox.
  pub record IsRested (sent made position : ℕ) (s : State T U) (handles : List Handle) : Type 0 where
    pub bound : ℕ
    pub full : IsFull c most available value some units keeps sent made bound position s handles
    pub apart : bound ≤ suc (sent - c.history_size)
    pub enough : 0 < made → c.history_size ≤ sent

  -- ---- one subscriber

  -- the last subscriber has a full buffer and has borrowed all that it may
  all_full : (sent made bound position from : ℕ) (s : State T U) (handles : List Handle)
      → IsServing c most available value some units keeps sent made bound position from
      (buffer_limit c) c.subscriber_max_borrowed_samples s handles
      → IsFull c most available value some units keeps sent (suc made) (suc sent) position s handles
  all_full sent made bound position from s handles f =
      let g : IsFilling c most available s sent 0 (suc made) (ports_from 2 (suc made)) false f.boxes = f.filling in
      let box : MailboxIsWellFormed s 1 (2 + made) = (g.well_formed).mailboxes 1 (2 + made) in
      record {
        boxes = f.boxes;
        filling = f.filling;
        full = one_more_full c f.boxes made bound (suc sent) f.low f.full f.opening
            (subst (λ (b : ℕ → Mailbox). IsOnce (numbers_in (b (2 + made)))) g.mailboxes (box.within).once)
            (λ n h.
            let low : n < s.next_message =
            box.below n (ap (λ (b : ℕ → Mailbox). contains (numbers_in (b (2 + made))) n) g.mailboxes ∙ h) in
            omega (arith, g.next_message));
        named = f.named;
      }

  -- a subscriber that isn't made yet has borrowed nothing, and nothing waits for it in other channels
  nothing_lent : (sent made : ℕ) (links : List (Option ℕ)) (due : Bool) (boxes : ℕ → Mailbox) (s : State T U)
      → IsFilling c most available s sent 0 made links due boxes
      → (other_numbers (boxes (2 + made)) ≡ []) × ((boxes (2 + made)).borrowed ≡ [])
  nothing_lent sent made links due boxes s f =
      let box : Mailbox = s.mailboxes 1 (2 + made) in
      let none : (other_numbers box ≡ []) × (box.waiting ≡ []) × (box.borrowed ≡ []) =
      nothing_anywhere box (false_from (has_numbers box) (λ h.
      let below : (1 < s.next_port) × (2 + made < s.next_port) = ((f.well_formed).mailboxes 1 (2 + made)).known h in
      omega (arith, below.1, f.next_port))) in
      subst (λ (b : ℕ → Mailbox). (other_numbers (b (2 + made)) ≡ []) × ((b (2 + made)).borrowed ≡ [])) f.mailboxes
      (none.0, none.2)

  -- the last subscriber was made and connected
  first_served : (sent made position : ℕ) (s s' : State T U) (handles : List Handle) (new last : Handle)
      → (f : IsRested sent made position s handles) → new ≡ Subscriber_handle (2 + made)
      → IsFilling c most available s' sent 0 (suc made) (ports_from 2 (suc made)) false
      (put_at (f.full).boxes (2 + made)
      (with_waiting (last_n (buffer_limit c) (recent c.history_size sent)) ((f.full).boxes (2 + made))))
      → IsServing c most available value some units keeps sent made f.bound (position + 2) position 0 0 s'
      ((handles ++ new ∷ []) ++ last ∷ [])
  first_served sent made position s s' handles new last f e h =
      let boxes : ℕ → Mailbox = (f.full).boxes in
      let box : Mailbox = with_waiting (last_n (buffer_limit c) (recent c.history_size sent)) (boxes (2 + made)) in
      let nothing : (other_numbers (boxes (2 + made)) ≡ []) × ((boxes (2 + made)).borrowed ≡ []) =
      nothing_lent sent made (ports_from 2 made) false boxes s (f.full).filling in
      record {
        boxes = put_at boxes (2 + made) box;
        filling = h;
        full = full_kept c boxes made f.bound box (f.full).full;
        opening = subst (λ (b : Mailbox). IsOpening c b 0 0 f.bound) (sym (put_at-same boxes (2 + made) box))
            (opening_served c (boxes (2 + made)) sent f.bound f.apart nothing.0 nothing.1);
        low = omega (arith, f.apart);
        named = named_next (handles ++ new ∷ []) last (suc position) (position + 2) (omega arith)
            (named_next handles new position (suc position) refl (f.full).named);
        subscriber = found_earlier (handles ++ new ∷ []) (last ∷ []) position (Subscriber_handle (2 + made))
            (handle_new handles new position ((f.full).named).count ∙ ap (λ h. Some h) e);
      }

  -- a subscriber that was just connected is filled
  fills_last : (sent sent' made bound position position' from : ℕ) (s : State T U) (handles : List Handle)
      → sent' ≡ sent + sends_each c
      → position' + 2 ≡ position + filling_length c
      → sent' < last_number
      → IsServing c most available value some units keeps sent made bound position from 0 0 s handles
      → Leads c most available (IsRested sent' (suc made) position') s handles
      (rounds c.variant value from position c.subscriber_max_borrowed_samples
      ++ sends c.variant value (position + 4 * c.subscriber_max_borrowed_samples) (buffer_limit c)
      ++ sends c.variant value (position + 4 * c.subscriber_max_borrowed_samples + 3 * buffer_limit c) c.history_size)
  fills_last sent sent' made bound position position' from s handles e e' more f =
      let lent : ℕ = c.subscriber_max_borrowed_samples in
      let wait : ℕ = buffer_limit c in
      let past : ℕ = c.history_size in
      let first : List (Command T U) = rounds c.variant value from position lent in
      let second : List (Command T U) = sends c.variant value (position + 4 * lent) wait in
      let third : List (Command T U) = sends c.variant value (position + 4 * lent + 3 * wait) past in
      leads_append c most available (IsRested sent' (suc made) position') (first ++ second) third s handles
      (leads_append c most available
      (λ s1 h1. Leads c most available (IsRested sent' (suc made) position') s1 h1 third) first second s handles
      (leads_further c most available
      (IsServing c most available value some units keeps (sent + lent) made bound (position + 4 * lent) from 0 lent)
      (λ s0 h0. Leads c most available
      (λ s1 h1. Leads c most available (IsRested sent' (suc made) position') s1 h1 third) s0 h0 second)
      (λ s0 h0 g. leads_further c most available
      (IsServing c most available value some units keeps (sent + lent + wait) made bound
      (position + 4 * lent + 3 * wait) from wait lent)
      (λ s1 h1. Leads c most available (IsRested sent' (suc made) position') s1 h1 third)
      (λ s1 h1 g1. leads_further c most available
      (IsFull c most available value some units keeps sent' (suc made) (suc (sent + lent + wait)) position')
      (IsRested sent' (suc made) position')
      (λ s2 h2 g2.
      record { bound = suc (sent + lent + wait); full = g2; apart = omega arith; enough = λ _. omega arith })
      third s1 h1
      (full_sends c most available value some units keeps past (sent + lent + wait) sent' (suc made)
      (suc (sent + lent + wait))
      (position + 4 * lent + 3 * wait) position'
      (omega arith) (omega arith) more s1 h1
      (all_full (sent + lent + wait) made bound (position + 4 * lent + 3 * wait) from s1 h1 g1)))
      second s0 h0
      (serving_sends c most available value some units keeps wait (sent + lent) (sent + lent + wait) made bound
      (position + 4 * lent)
      (position + 4 * lent + 3 * wait) from 0 wait lent
      refl refl (omega arith) (omega arith) (omega arith) s0 h0 g))
      first s handles
      (serving_rounds c most available value some units keeps lent sent (sent + lent) made bound position
      (position + 4 * lent) from 0 lent
      refl refl (omega arith) (omega arith) (omega arith) s handles f)))

  -- one more subscriber is made and filled
  subscriber_leads : (sent sent' made position position' : ℕ) (s : State T U) (handles : List Handle)
      → sent' ≡ sent + sends_each c
      → position' ≡ position + filling_length c
      → made < c.max_subscribers → 2 + made < last_number → sent' < last_number
      → IsRested sent made position s handles
      → Leads c most available (IsRested sent' (suc made) position') s handles (subscriber_filled c value position)
  subscriber_leads sent sent' made position position' s handles e e' low few more f = λ dv dh m o step w.
      let boxes : ℕ → Mailbox = (f.full).boxes in
      let new : IsMade c most available s sent made (ports_from 2 made) false boxes (f.full).filling o =
      subscriber_step c most available s sent made (ports_from 2 made) false boxes
      (f.full).filling dv dh m handles o few low step w in
      inr (
        ap is_granted new.reply,
        λ dv' dh' m' o' step' w'.
            let up : IsUpdatedOutcome c most available o.state sent made boxes new.filling o' =
            update_step c most available o.state sent made boxes new.filling dv' dh' m' (handles ++ o.handle ∷ []) o'
            (found_earlier handles (o.handle ∷ []) 0 (Publisher_handle 1) ((f.full).named).publisher) step' w' in
            inr (
              ap is_granted up.reply,
              fills_last sent sent' made f.bound (position + 2) position' position o'.state
                  ((handles ++ o.handle ∷ []) ++ o'.handle ∷ []) e (omega arith) more
                  (first_served sent made position s o'.state handles o.handle o'.handle f new.handle up.filling),
            ),
      )

  -- ---- all subscribers

  -- All of them are full at some position.
  abbrev pub AllRested : (sent made : ℕ) → State T U → List Handle → Type 0
  AllRested sent made s handles = (position : ℕ) × IsRested sent made position s handles

  pub subscribers_lead : (count sent sent' made made' position : ℕ) (s : State T U) (handles : List Handle)
      → sent' ≡ sent + count * sends_each c
      → made' ≡ made + count
      → made' ≤ c.max_subscribers → 2 + made' < last_number → sent' < last_number
      → IsRested sent made position s handles
      → Leads c most available (AllRested sent' made') s handles (subscribers_filled c value position count)
  subscribers_lead zero sent sent' made made' position s handles e e' low few more f =
      let a : sent ≡ sent' = omega arith in
      let b : made ≡ made' = omega arith in (
        position,
        subst (λ i. IsRested i made' position s handles) a (subst (λ i. IsRested sent i position s handles) b f),
      )
  subscribers_lead (suc count) sent sent' made made' position s handles e e' low few more f =
      leads_append c most available (AllRested sent' made') (subscriber_filled c value position)
      (subscribers_filled c value (position + filling_length c) count) s handles
      (leads_further c most available (IsRested (sent + sends_each c) (suc made) (position + filling_length c))
      (λ s1 h1. Leads c most available (AllRested sent' made') s1 h1
      (subscribers_filled c value (position + filling_length c) count))
      (λ s1 h1 g. subscribers_lead count (sent + sends_each c) sent' (suc made) made'
      (position + filling_length c) s1 h1 (omega arith) (omega arith) low
      few more g)
      (subscriber_filled c value position) s handles
      (subscriber_leads sent (sent + sends_each c) made position (position + filling_length c) s handles refl refl
      (omega arith) (omega arith) (omega arith) f))

  -- ---- all loans

  -- So many loans are out, and all subscribers are full.
  pub record IsLent (sent made out : ℕ) (s : State T U) (handles : List Handle) : Type 0 where
    pub boxes : ℕ → Mailbox
    pub bound : ℕ
    pub filling : IsFilling c most available s sent out made (ports_from 2 made) false boxes
    pub full : AreFull c boxes made bound
    pub apart : bound ≤ suc (sent - c.history_size)
    pub enough : 0 < made → c.history_size ≤ sent
    pub publisher : slice_get handles 0 ≡ Some (Publisher_handle 1)

  pub loans_lead : (count sent made out : ℕ) (s : State T U) (handles : List Handle) → most ≡ out + count
      → suc sent + most < last_number
      → IsLent sent made out s handles
      → Leads c most available (IsLent sent made most) s handles (replicate count (loan_command c.variant))
  loans_lead zero sent made out s handles e more f = let same : out ≡ most = omega arith in
      subst (λ i. IsLent sent made i s handles) same f
  loans_lead (suc count) sent made out s handles e more f = λ dv dh m o step w.
      ⊎_elim
      (λ refused. inl refused)
      (λ (loaned : IsLoanedOutcome c most available s sent out made (ports_from 2 made) false f.boxes f.filling o).
      inr (
        ap is_granted loaned.reply,
        loans_lead count sent made (suc out) o.state (handles ++ o.handle ∷ []) (omega arith) more (record {
          boxes = f.boxes;
          bound = f.bound;
          filling = loaned.filling;
          full = f.full;
          apart = f.apart;
          enough = f.enough;
          publisher = found_earlier handles (o.handle ∷ []) 0 (Publisher_handle 1) f.publisher;
        }),
      ))
      (loan_step c most available s sent out made (ports_from 2 made) false f.boxes f.filling dv dh m handles o units
      (omega arith) (omega arith) f.publisher
      step w)

  -- ---- what is held at the end

  -- with all loans out the publisher holds the worst case
  pub holds_worst_case : (sent out : ℕ) (s : State T U) (handles : List Handle) → 0 < c.max_subscribers
      → channel_count c ≡ 1 → (f : IsLent sent c.max_subscribers out s handles)
      → size (held s 1 (filler most available (f.filling).longest (numbers_from (suc sent) out)
      (recent c.history_size sent) (ports_from 2 c.max_subscribers)
      false)) ≡ worst_case c out
  holds_worst_case sent out s handles several single f =
      ap (λ (b : ℕ → Mailbox).
      size ((numbers_from (suc sent) out ++ recent c.history_size sent) ++ flat_map (λ q. numbers_in (b q))
      (occupants (ports_from 2 c.max_subscribers)))) (f.filling).mailboxes
      ∙ ap (λ (qs : List ℕ). size
      ((numbers_from (suc sent) out ++ recent c.history_size sent) ++ flat_map (λ q. numbers_in (f.boxes q)) qs))
      (occupants-ports_from 2 c.max_subscribers)
      ∙ size_is (all_numbers c f.boxes c.max_subscribers sent out) (all_numbers c f.boxes c.max_subscribers sent out)
      (IsOnce-all_numbers c f.boxes c.max_subscribers f.bound sent out f.full f.apart) (λ n. refl)
      ∙ length-all_numbers c f.boxes c.max_subscribers f.bound sent out f.full (f.enough several)
      ∙ one_channel c out single
