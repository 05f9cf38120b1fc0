-- The commands that fill a publisher's slots, a message or a subscriber at a time.
use Rattle.std.proofs.Common.{◌≡◌, ℕ, zero, suc, ◌+◌, ◌*◌, ◌≤◌, ◌<◌, false, List, [], ◌∷◌, ◌++◌, refl, sym, ap, subst}
use Rattle.std.proofs.Common.{◌∙◌, arith, Some, ⊎_elim, inl, inr}
use Rattle.std.specs.Prelude.{slice_get}
use Rattle.iox2_machine.specs.machine.Limits.{buffer_limit, last_number}
use Rattle.iox2_machine.specs.machine.Numbers.{put_at}
use Rattle.iox2_machine.specs.machine.Mailbox.{Mailbox}
use Rattle.iox2_machine.specs.machine.State.{State}
use Rattle.iox2_machine.specs.declared.service_config.ServiceConfig.{ServiceConfig}
use Rattle.iox2_laws.proofs.Puts.{put_at-same}
use Rattle.iox2_commands.specs.Outcomes.{Handle, Subscriber_handle, Loan_handle}
use Rattle.iox2_worst_case.specs.Fills.{is_granted}
use Rattle.iox2_worst_case.specs.FillingCommands.{loan_command, sends, rounds}
use Rattle.iox2_commands.specs.declared.command.Command.{Command}
use Rattle.iox2_commands.specs.declared.command.Command.TheVariants.{WriteAll, Send, Receive}
use Rattle.iox2_commands.proofs.GrowingLists.{found_earlier}
use Rattle.iox2_worst_case.proofs.FillingNumbers.{ports_from}
use Rattle.iox2_worst_case.proofs.FillingRuns.{Leads}
use Rattle.iox2_worst_case.proofs.FillingShape.{IsFilling, IsNamed, handle_new, named_next}
use Rattle.iox2_worst_case.proofs.FillingLoans.{IsLoanedOutcome, loan_step, IsWritten, write_step}
use Rattle.iox2_worst_case.proofs.FillingDeliveries.{Delivers, taken, delivers_to_none, delivers_to_last}
use Rattle.iox2_worst_case.proofs.FillingSends.{IsSentOutcome, send_step}
use Rattle.iox2_worst_case.proofs.FillingReceives.{IsReceivedOutcome, receive_step, one_received}
use Rattle.iox2_worst_case.proofs.FillingBoxes.{AreFull, IsOpening, no_room, full_kept, opening_taken, opening_received}

-- What every earlier position names, it names still.
abbrev pub KeepsHandles : List Handle → List Handle → Type 0
KeepsHandles handles handles' = (of : ℕ) (h : Handle) → slice_get handles of ≡ Some h → slice_get handles' of ≡ Some h

module _ {T U : Type 0} (c : ServiceConfig) (most available : ℕ) (value : T) (some : 0 < most)
    (units : c.units_per_element ≡ 1)
    (keeps : c.enable_safe_overflow ≡ false) where
  -- So far all subscribers are full.
  pub record IsFull (sent made bound position : ℕ) (s : State T U) (handles : List Handle) : Type 0 where
    pub boxes : ℕ → Mailbox
    pub filling : IsFilling c most available s sent 0 made (ports_from 2 made) false boxes
    pub full : AreFull c boxes made bound
    pub named : IsNamed handles position

  -- So far all subscribers but the last are full. That one was made at the position `from`, has at least so many
  -- messages waiting, and has borrowed so many.
  pub record IsServing (sent made bound position from least lent : ℕ) (s : State T U)
      (handles : List Handle) : Type 0 where
    pub boxes : ℕ → Mailbox
    pub filling : IsFilling c most available s sent 0 (suc made) (ports_from 2 (suc made)) false boxes
    pub full : AreFull c boxes made bound
    pub opening : IsOpening c (boxes (2 + made)) least lent bound
    pub low : bound ≤ suc sent
    pub named : IsNamed handles position
    pub subscriber : slice_get handles from ≡ Some (Subscriber_handle (2 + made))

  -- a message is sent
  pub send_leads : (Post : State T U → List Handle → Type 0) (rest : List (Command T U)) (s : State T U)
      (handles : List Handle) (sent made position : ℕ)
      (boxes wanted : ℕ → Mailbox)
      → IsFilling c most available s sent 0 made (ports_from 2 made) false boxes
      → Delivers c made (suc sent) boxes wanted → IsNamed handles position
      → suc sent < last_number
      → ((s' : State T U) (handles' : List Handle)
      → IsFilling c most available s' (suc sent) 0 made (ports_from 2 made) false wanted → IsNamed handles'
      (position + 3) → KeepsHandles handles handles'
      → Leads c most available Post s' handles' rest)
      → Leads c most available Post s handles (loan_command c.variant ∷ WriteAll position value ∷ Send position ∷ rest)
  send_leads Post rest s handles sent made position boxes wanted f delivers named more next = λ dv dh m o step w.
      ⊎_elim
      (λ refused. inl refused)
      (λ (loaned : IsLoanedOutcome c most available s sent 0 made (ports_from 2 made) false boxes f o). inr (
        ap is_granted loaned.reply,
        λ dv' dh' m' o' step' w'.
            let handles1 : List Handle = handles ++ o.handle ∷ [] in
            let loan1 : slice_get handles1 position ≡ Some (Loan_handle (suc sent + 0)) =
            handle_new handles o.handle position named.count
            ∙ ap (λ h. Some h) loaned.handle in
            let wrote : IsWritten c most available o.state sent 1 made (ports_from 2 made) false boxes loaned.filling
            (suc sent + 0) o' =
            write_step c most available o.state sent 1 made
            (ports_from 2 made) false boxes loaned.filling value position (suc sent + 0) dv' dh' m' handles1
            o' loan1 loaned.loan step' w' in
            inr (
              ap is_granted wrote.reply,
              λ dv'' dh'' m'' o'' step'' w''.
                  let handles2 : List Handle = handles1 ++ o'.handle ∷ [] in
                  let sent_so : IsSentOutcome c most available o'.state sent made boxes wanted wrote.filling delivers
                  o'' =
                  send_step c most available o'.state sent made boxes wanted wrote.filling delivers position
                  (suc sent + 0) dv'' dh'' m'' handles2 o'' (omega arith)
                  (found_earlier handles1 (o'.handle ∷ []) position _ loan1) wrote.loan step'' w'' in
                  inr (
                    ap is_granted sent_so.reply,
                    next o''.state (handles2 ++ o''.handle ∷ []) sent_so.filling
                        (named_next handles2 o''.handle (position + 2) (position + 3) (omega arith)
                        (named_next handles1 o'.handle (position + 1) (position + 2) (omega arith)
                        (named_next handles o.handle position (position + 1) (omega arith) named)))
                        (λ of h e. found_earlier handles2 (o''.handle ∷ []) of h
                        (found_earlier handles1 (o'.handle ∷ []) of h (found_earlier handles (o.handle ∷ []) of h e))),
                  ),
            ),
      ))
      (loan_step c most available s sent 0 made (ports_from 2 made) false boxes f dv dh m handles o units some
      (omega arith) named.publisher step w)

  -- ---- messages that nobody has room for

  pub full_sends : (count sent sent' made bound position position' : ℕ) → sent' ≡ sent + count
      → position' ≡ position + 3 * count → sent' < last_number
      → (s : State T U) (handles : List Handle) → IsFull sent made bound position s handles
      → Leads c most available (IsFull sent' made bound position') s handles (sends c.variant value position count)
  full_sends zero sent sent' made bound position position' e e' more s handles f =
      let a : sent ≡ sent' = omega arith in
      let b : position ≡ position' = omega arith in
      subst (λ i. IsFull i made bound position' s handles) a (subst (λ i. IsFull sent made bound i s handles) b f)
  full_sends (suc count) sent sent' made bound position position' e e' more s handles f =
      send_leads (IsFull sent' made bound position')
      (sends c.variant value (position + 3) count) s handles sent made position f.boxes f.boxes f.filling
      (delivers_to_none c made (suc sent) f.boxes keeps (no_room c f.boxes made bound f.full)) f.named (omega arith)
      (λ s' handles' filling named kept.
      full_sends count (suc sent) sent' made bound (position + 3) position' (omega arith) (omega arith) more s' handles'
      (record { boxes = f.boxes; filling = filling; full = f.full; named = named }))

  -- ---- messages for the last subscriber

  -- after one more was sent
  served_more : (sent made bound position from least more lent : ℕ) (s s' : State T U) (handles handles' : List Handle)
      → more ≡ suc least → more ≤ buffer_limit c
      → (f : IsServing sent made bound position from least lent s handles)
      → IsFilling c most available s' (suc sent) 0 (suc made) (ports_from 2 (suc made)) false
      (put_at f.boxes (2 + made) (taken (buffer_limit c) (suc sent) (f.boxes (2 + made))))
      → IsNamed handles' (position + 3) → KeepsHandles handles handles'
      → IsServing (suc sent) made bound (position + 3) from more lent s' handles'
  served_more sent made bound position from least more lent s s' handles handles' e room f filling named kept = record {
    boxes = put_at f.boxes (2 + made) (taken (buffer_limit c) (suc sent) (f.boxes (2 + made)));
    filling = filling;
    full = full_kept c f.boxes made bound (taken (buffer_limit c) (suc sent) (f.boxes (2 + made))) f.full;
    opening = subst (λ (b : Mailbox). IsOpening c b more lent bound)
        (sym (put_at-same f.boxes (2 + made) (taken (buffer_limit c) (suc sent) (f.boxes (2 + made)))))
        (opening_taken c (f.boxes (2 + made)) least more lent bound (suc sent) e room f.low f.opening);
    low = omega (arith, f.low);
    named = named;
    subscriber = kept from _ f.subscriber;
  }

  pub serving_sends : (count sent sent' made bound position position' from least least' lent : ℕ) → sent' ≡ sent + count
      → position' ≡ position + 3 * count
      → least' ≡ least + count
      → least' ≤ buffer_limit c → sent' < last_number
      → (s : State T U) (handles : List Handle) → IsServing sent made bound position from least lent s handles
      → Leads c most available (IsServing sent' made bound position' from least' lent) s handles
      (sends c.variant value position count)
  serving_sends zero sent sent' made bound position position' from least least' lent e e' e'' room more s handles f =
      let a : sent ≡ sent' = omega arith in
      let b : position ≡ position' = omega arith in
      let d : least ≡ least' = omega arith in
      subst (λ i. IsServing i made bound position' from least' lent s handles) a
      (subst (λ i. IsServing sent made bound i from least' lent s handles) b
      (subst (λ i. IsServing sent made bound position from i lent s handles) d f))
  serving_sends
      (suc count) sent sent' made bound position position' from least least' lent e e' e'' room more s handles f =
      send_leads (IsServing sent' made bound position' from least' lent)
      (sends c.variant value (position + 3) count) s handles sent (suc made) position f.boxes
      (put_at f.boxes (2 + made) (taken (buffer_limit c) (suc sent) (f.boxes (2 + made)))) f.filling
      (delivers_to_last c made (suc sent) f.boxes keeps (no_room c f.boxes made bound f.full)) f.named (omega arith)
      (λ s' handles' filling named kept.
      serving_sends count (suc sent) sent' made bound (position + 3) position' from (suc least) least' lent
      (omega arith) (omega arith) (omega arith) room
      more s' handles'
      (served_more sent made bound position from least (suc least) lent s s' handles handles' refl
      (omega arith) f filling named kept))

  -- ---- the last subscriber borrows

  -- after one more was received
  lent_more : (sent made bound position from lent : ℕ) (s s' : State T U) (handles : List Handle) (new : Handle)
      → (f : IsServing sent made bound position from 1 lent s handles)
      → IsFilling c most available s' sent 0 (suc made) (ports_from 2 (suc made)) false
      (put_at f.boxes (2 + made) (one_received (f.boxes (2 + made))))
      → IsServing sent made bound (suc position) from 0 (suc lent) s' (handles ++ new ∷ [])
  lent_more sent made bound position from lent s s' handles new f filling = record {
    boxes = put_at f.boxes (2 + made) (one_received (f.boxes (2 + made)));
    filling = filling;
    full = full_kept c f.boxes made bound (one_received (f.boxes (2 + made))) f.full;
    opening = subst (λ (b : Mailbox). IsOpening c b 0 (suc lent) bound)
        (sym (put_at-same f.boxes (2 + made) (one_received (f.boxes (2 + made)))))
        (opening_received c (f.boxes (2 + made)) 0 lent bound f.opening);
    low = f.low;
    named = named_next handles new position (suc position) refl f.named;
    subscriber = found_earlier handles (new ∷ []) from _ f.subscriber;
  }

  pub serving_rounds : (count sent sent' made bound position position' from lent lent' : ℕ) → sent' ≡ sent + count
      → position' ≡ position + 4 * count
      → lent' ≡ lent + count
      → lent' ≤ c.subscriber_max_borrowed_samples → sent' < last_number
      → (s : State T U) (handles : List Handle) → IsServing sent made bound position from 0 lent s handles
      → Leads c most available (IsServing sent' made bound position' from 0 lent') s handles
      (rounds c.variant value from position count)
  serving_rounds zero sent sent' made bound position position' from lent lent' e e' e'' room more s handles f =
      let a : sent ≡ sent' = omega arith in
      let b : position ≡ position' = omega arith in
      let d : lent ≡ lent' = omega arith in
      subst (λ i. IsServing i made bound position' from 0 lent' s handles) a
      (subst (λ i. IsServing sent made bound i from 0 lent' s handles) b
      (subst (λ i. IsServing sent made bound position from 0 i s handles) d f))
  serving_rounds (suc count) sent sent' made bound position position' from lent lent' e e' e'' room more s handles f =
      send_leads (IsServing sent' made bound position' from 0 lent')
      (Receive from ∷ rounds c.variant value from (position + 4) count) s handles sent (suc made)
      position f.boxes
      (put_at f.boxes (2 + made) (taken (buffer_limit c) (suc sent) (f.boxes (2 + made)))) f.filling
      (delivers_to_last c made (suc sent) f.boxes keeps (no_room c f.boxes made bound f.full)) f.named (omega arith)
      (λ s' handles' filling named kept. λ dv dh m o step w.
      let g : IsServing (suc sent) made bound (position + 3) from 1 lent s' handles' =
      served_more sent made bound position from 0 1 lent s s' handles handles' refl
      (omega arith) f filling named kept in
      let got : IsReceivedOutcome c most available s' (suc sent) (suc made)
      (ports_from 2 (suc made)) false g.boxes g.filling (2 + made) _ _ _ _ o =
      receive_step c most available s' (suc sent) (suc made) (ports_from 2 (suc made)) false g.boxes g.filling
      (2 + made) (omega arith) (omega arith)
      (omega (arith, (g.opening).at_least))
      (omega (arith, (g.opening).borrows)) from dv dh m handles' o units g.subscriber step w in
      let later : suc (position + 3) ≡ position + 4 = omega arith in
      inr (
        ap is_granted got.reply,
        serving_rounds count (suc sent) sent' made bound (position + 4) position' from (suc lent) lent' (omega arith)
            (omega arith) (omega arith) room more
            o.state (handles' ++ o.handle ∷ [])
            (subst (λ i. IsServing (suc sent) made bound i from 0 (suc lent) o.state (handles' ++ o.handle ∷ [])) later
            (lent_more (suc sent) made bound (position + 3) from lent s' o.state handles' o.handle g got.filling)),
      ))
