-- What a send into channel 0 of one connection leaves: its subscriber is served, or left as it was and pending, and
-- nobody else is touched.
use Rattle.std.proofs.Common.{◌≡◌, ℕ, zero, suc, ◌+◌, ⊎_elim, ◌<◌, Bool, true, false, cond, List, [], ◌∷◌, drop, take}
use Rattle.std.proofs.Common.{length, refl, sym, ap, subst, ◌∙◌, arith, Option, None, Some, Result, Ok, Err}
use Rattle.std.specs.Prelude.{IfOk, IfSome}
use Rattle.std.specs.List.{filter}
use Rattle.std.specs.Option.{option_and_then}
use Rattle.std.proofs.lemmas.Bool.{lt-ltb}
use Rattle.std.proofs.lemmas.Option.{none-some, same_Some}
use Rattle.iox2_machine.specs.machine.ChannelCalls.{connection_place, place_from}
use Rattle.iox2_machine.specs.machine.Delivery.{no_time}
use Rattle.iox2_machine.specs.machine.Loans.{entry_of}
use Rattle.iox2_machine.specs.machine.Mailbox.{has_room}
use Rattle.iox2_machine.specs.machine.Numbers.{contains, put_at, IsOnce}
use Rattle.iox2_machine.specs.machine.Places.{is_port, occupant, occupants}
use Rattle.iox2_machine.specs.machine.Records.{Environment, Loan, Publisher}
use Rattle.iox2_machine.specs.machine.Sends.{Blocked_send, DeliverAndConclude, Delivered_to, with_mailboxes}
use Rattle.iox2_machine.specs.machine.State.{State, Messages, channel_buffer, with_loan}
use Rattle.iox2_machine.specs.declared.errors.SendError.{SendError}
use Rattle.iox2_machine.specs.declared.key.Key.{Key}
use Rattle.iox2_laws.specs.Sendings.{sending}
use Rattle.iox2_laws.proofs.Cases.{by_option}
use Rattle.iox2_laws.proofs.NumberLemmas.{contains_first, contains_one}
use Rattle.iox2_laws.proofs.PlaceLemmas.{is_port-true}
use Rattle.iox2_laws.proofs.Puts.{put_at-same}
use Rattle.iox2_domain.specs.Kept.{Kept, state_of}
use Rattle.iox2_domain.specs.Shows.{Shows}
use Rattle.iox2_pubsub.specs.ConnectedPorts.{Connects}
use Rattle.iox2_pubsub.specs.Counts.{HaveTaken}
use Rattle.iox2_pubsub.specs.Live.{HasItsBuffer, IsAtConnection, IsBlockedSend, IsConnected, IsServed}
use Rattle.iox2_pubsub.specs.Live.{IsServedOrPending, blocked_key, payloads_from}
use Rattle.iox2_pubsub.specs.SendCalls.{IfBlocked, IsDelivered, SendsToConnection, messages_after_send, result_of_send}
use Rattle.iox2_pubsub.specs.Slices.{HasValues}
use Rattle.iox2_pubsub.specs.declared.send_outcome.SendOutcome.{SendOutcome}
use Rattle.iox2_pubsub.specs.declared.send_outcome.SendOutcome.TheVariants.{Blocked, Delivered}
use Rattle.iox2_pubsub.specs.declared.subscriber.Subscriber.{Subscriber}
use Rattle.iox2_pubsub.proofs.ConnectedCounts.{TouchesOnly, goes-on-touches}
use Rattle.iox2_pubsub.proofs.ConnectionSendShown.{to-connections}
use Rattle.iox2_pubsub.proofs.ConnectionsShown.{loan-values}
use Rattle.iox2_pubsub.proofs.CountsShown.{decided-shown, lies, one-taken}
use Rattle.iox2_pubsub.proofs.DeliveryCounts.{takes_in}
use Rattle.iox2_pubsub.proofs.PendingDeliveries.{Comes, goes-on-comes, served_box}
use Rattle.iox2_pubsub.proofs.PendingShown.{box-served, split-shown, when-delivered}
use Rattle.iox2_pubsub.proofs.LiveParts.{buffer-parts}
use Rattle.iox2_pubsub.proofs.OverflowSends.{IsUnhindered, concludes-unhindered}
use Rattle.iox2_pubsub.proofs.PendingSteps.{takes-buffer}
use Rattle.iox2_pubsub.proofs.RoomySends.{delivery-roomy}
use Rattle.iox2_pubsub.proofs.SendCounts.{connected-takes, goes-on-counts, takes_next}
use Rattle.iox2_pubsub.proofs.SentMessages.{sent-before-stays}
use Rattle.iox2_pubsub.proofs.UpToDateShown.{connected-in}

-- the subscriber that a place is told of stands there
place-in : (end : Option ℕ) (rest : List (Option ℕ)) (q k place : ℕ)
    → (place_from (suc k) rest q ≡ Some place → (i : ℕ) × (place ≡ suc k + i) × (occupant rest i ≡ Some q)) → (b : Bool)
    → is_port end q ≡ b
    → cond b (Some k) (place_from (suc k) rest q) ≡ Some place
    → (i : ℕ) × (place ≡ k + i) × (occupant (end ∷ rest) i ≡ Some q)
place-in end rest q k place behind true here is =
    (0, (let same : k ≡ place = same_Some k place is in omega (arith, same)), is_port-true end q here)
place-in end rest q k place behind false here is =
    let later = behind is in
    (suc later.0, (let same : place ≡ suc k + later.0 = later.1 in omega (arith, same)), later.2)

pub place-is : (ends : List (Option ℕ)) (q k place : ℕ) → place_from k ends q ≡ Some place
    → (i : ℕ) × (place ≡ k + i) × (occupant ends i ≡ Some q)
place-is [] q k place is = absurd (none-some place is)
place-is (end ∷ rest) q k place is = place-in end rest q k place (place-is rest q (suc k) place) (is_port end q) refl is

pub one-end : (ends : List (Option ℕ)) (place q : ℕ) → occupant ends place ≡ Some q
    → take 1 (drop place ends) ≡ Some q ∷ []
one-end [] place q at = absurd (none-some q at)
one-end (end ∷ rest) zero q at = ap (λ (o : Option ℕ). o ∷ []) at
one-end (end ∷ rest) (suc place) q at = one-end rest place q at

-- what is told of a place
pub at-connection : {T U F G : Type 0} (kept : Kept T U F G) (m : Messages T U) (s : State T U) → Shows kept m s
    → (p q : ℕ) (told : Option ℕ) → told ≡ connection_place s p q
    → IfSome told
    (λ connection. (subscriber : Subscriber) → subscriber.id ≡ q → IsAtConnection kept p connection subscriber)
unfolding IsAtConnection
at-connection kept m s shown p q None is = tt
at-connection {T} {U} kept m s shown p q (Some place) is =
    λ subscriber same. ap (λ (t : State T U). connection_place t p subscriber.id) (sym shown.state)
    ∙ ap (connection_place s p) same ∙ sym is

pub connection-parts : {T U F G : Type 0} (kept : Kept T U F G) (p connection : ℕ) (subscriber : Subscriber)
    → IsAtConnection kept p connection subscriber → connection_place (state_of kept) p subscriber.id ≡ Some connection
unfolding IsAtConnection
connection-parts kept p connection subscriber at = at

pub connection-is : {T U F G : Type 0} (kept : Kept T U F G) (p connection : ℕ) (subscriber : Subscriber)
    → connection_place (state_of kept) p subscriber.id ≡ Some connection → IsAtConnection kept p connection subscriber
unfolding IsAtConnection
connection-is kept p connection subscriber at = at

module _ {T U F G : Type 0} (old new : Kept T U F G) (m : Messages T U) (s : State T U) (shown : Shows old m s)
    (environment : Environment) (n : ℕ) (l : Loan T U) (out : s.loans n ≡ Some l) (p : ℕ) (its : l.publisher ≡ p)
    (place : ℕ) (result : Result SendOutcome SendError) (s' : State T U)
    (shown' : Shows new (messages_after_send m n l result) s')
    (h : SendsToConnection environment s n l 0 place result s')
    (subscriber : Subscriber) (at : IsAtConnection old p place subscriber) (is : IsConnected old p subscriber) where
  abbrev pub here : IsConnected old l.publisher subscriber
  here = subst (λ (i : ℕ). IsConnected old i subscriber) (sym its) is

  abbrev pub c : Connects s l.publisher subscriber.id
  c = connected-in old m s shown l.publisher subscriber here

  abbrev pub ends : List (Option ℕ)
  ends = (c.publisher).ends

  pub stands : occupant ends place ≡ Some subscriber.id
  stands =
      let told : connection_place s l.publisher subscriber.id ≡ Some place =
      ap (λ (t : State T U). connection_place t l.publisher subscriber.id) shown.state
      ∙ ap (λ (i : ℕ). connection_place (state_of old) i subscriber.id) its
      ∙ connection-parts old p place subscriber at in
      let found = place-is ends subscriber.id 0 place
      (sym (ap (option_and_then (λ (x : Publisher). place_from 0 x.ends subscriber.id)) c.stands) ∙ told) in
      let same : found.0 ≡ place = let first : place ≡ 0 + found.0 = found.1 in omega (arith, first) in
      ap (occupant ends) (sym same) ∙ found.2

  pub delivers : DeliverAndConclude environment (with_loan s n None) l.publisher
      (sending n 0 0 place (take 1 (drop place ends)) 0 false) no_time s' (result_of_send result)
  delivers =
      by_option (DeliverAndConclude environment (with_loan s n None) l.publisher
      (sending n 0 0 place (take 1 (drop place ends)) 0 false) no_time s' (result_of_send result))
      (s.publishers l.publisher) _ _ h
      (λ none _. absurd (none-some c.publisher (sym none ∙ c.stands)))
      (λ x present k. subst (λ (z : Publisher). DeliverAndConclude environment (with_loan s n None) l.publisher
      (sending n 0 0 place (take 1 (drop place z.ends)) 0 false) no_time s' (result_of_send result))
      (same_Some x c.publisher (sym present ∙ c.stands)) k)

  pub comes : Comes s s' l.publisher n subscriber.id (c.subscriber).buffer (result_of_send result)
  comes =
      let one : take 1 (drop place ends) ≡ Some subscriber.id ∷ [] = one-end ends place subscriber.id stands in
      goes-on-comes environment (with_loan s n None) l.publisher n 0 no_time place (take 1 (drop place ends)) 0 false s'
      (result_of_send result) delivers subscriber.id (c.subscriber).buffer
      (takes-buffer environment s shown.well_formed l.publisher subscriber.id c)
      (subst (λ (es : List (Option ℕ)). contains (occupants es) subscriber.id ≡ true) (sym one)
      (contains_first subscriber.id [])) (subst (λ (es : List (Option ℕ)). IsOnce (occupants es)) (sym one) (refl, tt))

  pub touches : TouchesOnly s s' l.publisher
  touches =
      let it = goes-on-touches environment (with_loan s n None) l.publisher n 0 0 no_time place
      (take 1 (drop place ends)) 0 false s' (result_of_send result) delivers in
      record { others = record { ports = it.others.ports; lie = it.others.lie }; subscribers = it.subscribers }

  sent : m n ≡ None
  sent = shown.unsent n l out

  -- it is served where the send is delivered
  pub connection-serves : (values : List T) → HasValues old n values
      → messages_after_send m n l result n ≡ Some (entry_of l)
      → IfOk result (λ outcome. IsDelivered outcome → IsServed old new p subscriber values)
  connection-serves values reads is_sent =
      when-delivered result (IsServed old new p subscriber values) (λ ended.
      ⊎_elim
      (λ it. subst (λ (i : ℕ). IsServed old new i subscriber values) its
      (subst (IsServed old new l.publisher subscriber) (loan-values old m s shown n l values out reads)
      (box-served old new m (messages_after_send m n l result) s s' shown shown'
      (sent-before-stays m n l result sent) l.publisher touches n (entry_of l) is_sent
      (to-connections environment s n l 0 place s' (result_of_send result) h)
      subscriber here c
      it.1)))
      (λ it. absurd (ended it.0))
      comes)

  -- it is delivered where there is room
  pub connection-roomy : HasItsBuffer old subscriber → length (payloads_from old p subscriber) < subscriber.buffer_size
      → IsUnhindered (result_of_send result)
  connection-roomy its-buffer few =
      by_option (IsUnhindered (result_of_send result)) (s.publishers l.publisher) _ _ delivers (λ _ v. absurd v)
      (λ z _ k.
      let ended = delivery-roomy environment s.config l.publisher z.backpressure_strategy z.backpressure_handler
      (channel_buffer s l.publisher 0) n 0 no_time place (take 1 (drop place ends)) 0 false
      (s.mailboxes l.publisher) k.0 k.1 refl
      (subst (λ (es : List (Option ℕ)). IsOnce (occupants es)) (sym (one-end ends place subscriber.id stands))
      (refl, tt)) room k.2 in
      concludes-unhindered environment (with_mailboxes (with_loan s n None) l.publisher k.1) l.publisher n k.0 s'
      (result_of_send result) ended.0 ended.1 k.3)
    where
      room-here : has_room 0 (c.subscriber).buffer (s.mailboxes l.publisher subscriber.id) ≡ true
      room-here =
          let size : (c.subscriber).buffer ≡ subscriber.buffer_size =
          (buffer-parts old subscriber its-buffer).1 c.subscriber
          (ap (λ (t : State T U). t.subscribers subscriber.id) (sym shown.state) ∙ c.there) in
          let some : length (payloads_from old p subscriber) < subscriber.buffer_size = few in
          let wait : length (payloads_from old p subscriber) ≡ length (s.mailboxes l.publisher subscriber.id).waiting =
          ap (λ (i : ℕ). length (payloads_from old i subscriber)) (sym its)
          ∙ lies old m s shown l.publisher subscriber c in
          lt-ltb _ _ (let fits : length (s.mailboxes l.publisher subscriber.id).waiting < (c.subscriber).buffer = omega
          (arith, size, some, wait) in fits)

      room : (q buffer : ℕ) → contains (occupants (take 1 (drop place ends))) q ≡ true
          → channel_buffer s l.publisher 0 q ≡ Some buffer → has_room 0 buffer (s.mailboxes l.publisher q) ≡ true
      room q buffer at opened =
          let here : subscriber.id ≡ q =
          contains_one subscriber.id q (subst (λ (es : List (Option ℕ)). contains (occupants es) q ≡ true)
          (one-end ends place subscriber.id stands) at) in
          let same : (c.subscriber).buffer ≡ buffer =
          same_Some (c.subscriber).buffer buffer
          (sym (takes-buffer environment s shown.well_formed l.publisher subscriber.id c)
          ∙ ap (channel_buffer s l.publisher 0) here ∙ opened) in
          ap (λ (b : ℕ). has_room 0 b (s.mailboxes l.publisher q)) (sym same)
          ∙ ap (λ (i : ℕ). has_room 0 (c.subscriber).buffer (s.mailboxes l.publisher i)) (sym here) ∙ room-here

  -- it took the message and was counted, or this went past it
  connection-counts : (values : List T) (reached : ℕ) → result_of_send result ≡ Delivered_to reached
      → IsServed old new p subscriber values → HaveTaken old new p values (subscriber ∷ []) reached
  connection-counts values reached is served =
      let one : take 1 (drop place ends) ≡ Some subscriber.id ∷ [] = one-end ends place subscriber.id stands in
      let counted : reached ≡ length
      (filter (takes_in (s.config).enable_safe_overflow (channel_buffer s l.publisher 0) (s.mailboxes l.publisher))
      (occupants (take 1 (drop place ends)))) =
      goes-on-counts environment (with_loan s n None) l.publisher n place (take 1 (drop place ends)) reached s'
      (subst (λ (es : List (Option ℕ)). IsOnce (occupants es)) (sym one) (refl, tt))
      (subst (DeliverAndConclude environment (with_loan s n None) l.publisher
      (sending n 0 0 place (take 1 (drop place ends)) 0 false) no_time s') is delivers) in
      let same : reached ≡ length (filter (takes_next s l.publisher) (subscriber.id ∷ [])) =
      counted ∙ ap (λ (es : List (Option ℕ)).
      length (filter (takes_in (s.config).enable_safe_overflow (channel_buffer s l.publisher 0)
      (s.mailboxes l.publisher)) (occupants es))) one
      ∙ ap (λ (b : Bool). length (cond b (subscriber.id ∷ []) []))
      (connected-takes environment s shown.well_formed l.publisher subscriber.id c) in
      let box : s'.mailboxes l.publisher subscriber.id ≡ served_box (s.config).enable_safe_overflow
      (c.subscriber).buffer n (s.mailboxes l.publisher subscriber.id) =
      ⊎_elim (λ it. it.1)
      (λ it. absurd (let clash : Delivered_to reached ≡ Blocked_send = sym is ∙ it.0 in cc)) comes in
      subst (λ (i : ℕ). HaveTaken old new i values (subscriber ∷ []) reached) its
      (subst (HaveTaken old new l.publisher values (subscriber ∷ [])) (sym same)
      (one-taken old new l.publisher values subscriber (takes_next s l.publisher subscriber.id)
      (decided-shown old new m (messages_after_send m n l result) s s' shown shown' l.publisher values n subscriber c
      (to-connections environment s n l 0 place s' (result_of_send result) h l.publisher subscriber.id c) box
      (subst (λ (i : ℕ). IsServed old new i subscriber values) (sym its) served))))

  pub counts-served : (values : List T) → HasValues old n values → (reached : ℕ) → result ≡ Ok (Delivered reached)
      → messages_after_send m n l result n ≡ Some (entry_of l) → HaveTaken old new p values (subscriber ∷ []) reached
  counts-served values reads reached is is_sent =
      connection-counts values reached (ap result_of_send is)
      (subst (λ (r : Result SendOutcome SendError). IfOk r (λ outcome. IsDelivered outcome
      → IsServed old new p subscriber values)) is (connection-serves values reads is_sent) tt)

module _ {T U F G : Type 0} (old new : Kept T U F G) (m : Messages T U) (s : State T U) (shown : Shows old m s)
    (environment : Environment) (n : ℕ) (l : Loan T U) (out : s.loans n ≡ Some l) (p : ℕ) (its : l.publisher ≡ p)
    (channel place : ℕ) (first : channel ≡ 0) where
  in-first : (result : Result SendOutcome SendError) (s' : State T U)
      → SendsToConnection environment s n l channel place result s'
      → SendsToConnection environment s n l 0 place result s'
  in-first result s' h = subst (λ (k : ℕ). SendsToConnection environment s n l k place result s') first h

  pub sends-to-serves : (result : Result SendOutcome SendError) (s' : State T U)
      → Shows new (messages_after_send m n l result) s' → SendsToConnection environment s n l channel place result s'
      → (subscriber : Subscriber) (values : List T) → IsAtConnection old p place subscriber
      → IsConnected old p subscriber → HasValues old n values
      → IfOk result (λ outcome. IsDelivered outcome → IsServed old new p subscriber values)
  sends-to-serves (Ok outcome) s' shown' h subscriber values at is reads =
      connection-serves old new m s shown environment n l out p its place (Ok outcome) s' shown'
      (in-first (Ok outcome) s' h) subscriber at is values reads (put_at-same m n (Some (entry_of l)))
  sends-to-serves (Err error) s' shown' h subscriber values at is reads = tt

  -- and where it is blocked, it was left as it was, and the send has it before it
  pub sends-to-pends : (result : Result SendOutcome SendError) (s' : State T U)
      → Shows new (messages_after_send m n l result) s' → SendsToConnection environment s n l channel place result s'
      → (key : Key) → key.port ≡ p → key.message ≡ n → IfOk result
      (λ outcome. IfBlocked outcome (λ blocked. IsBlockedSend new blocked × (blocked_key blocked ≡ key)))
      → (subscriber : Subscriber) (values : List T) → IsAtConnection old p place subscriber
      → IsConnected old p subscriber → HasValues old n values
      → IfOk result (λ outcome. IfBlocked outcome (λ blocked. IsServedOrPending old new blocked subscriber values))
  sends-to-pends (Ok (Delivered count)) s' shown' h key port message blocked subscriber values at is reads = tt
  sends-to-pends (Err error) s' shown' h key port message blocked subscriber values at is reads = tt
  sends-to-pends (Ok (Blocked again)) s' shown' h key port message blocked subscriber values at is reads =
      let step = in-first (Ok (Blocked again)) s' h in
      let came = comes old new m s shown environment n l out p its place
      (Ok (Blocked again)) s' shown' step subscriber at is in
      let unsent = shown.unsent n l out in
      let joined : IsConnected old l.publisher subscriber =
      subst (λ (i : ℕ). IsConnected old i subscriber) (sym its) is in
      split-shown old new m (put_at m n (Some (entry_of l))) s s' shown shown'
      (sent-before-stays m n l (Ok (Blocked again)) unsent) l.publisher
      (touches old new m s shown environment n l out p its place (Ok (Blocked again)) s' shown' step subscriber at is) n
      (entry_of l) (put_at-same m n (Some (entry_of l)))
      (to-connections environment s n l 0 place s' Blocked_send step)
      subscriber joined
      (connected-in old m s shown l.publisher subscriber joined) again
      (its ∙ sym port ∙ ap (λ (k : Key). k.port) (sym blocked.1))
      (sym message ∙ ap (λ (k : Key). k.message) (sym blocked.1)) blocked.0 values
      (loan-values old m s shown n l values out reads) (⊎_elim (λ it. absurd (it.0 refl)) (λ it. it.1) came)

  -- and whether it was counted
  pub sends-to-counts : (result : Result SendOutcome SendError) (s' : State T U)
      → Shows new (messages_after_send m n l result) s' → SendsToConnection environment s n l channel place result s'
      → (subscriber : Subscriber) (values : List T) → IsAtConnection old p place subscriber
      → IsConnected old p subscriber → HasValues old n values
      → IfOk result
      (λ outcome. (count : ℕ) → outcome ≡ Delivered count → HaveTaken old new p values (subscriber ∷ []) count)
  sends-to-counts (Ok outcome) s' shown' h subscriber values at is reads = λ count same.
      counts-served old new m s shown environment n l out p its place (Ok outcome) s' shown'
      (in-first (Ok outcome) s' h) subscriber at is values reads count (ap (λ (o : SendOutcome). Ok o) same)
      (put_at-same m n (Some (entry_of l)))
  sends-to-counts (Err error) s' shown' h subscriber values at is reads = tt

  -- nor is it kept from a subscriber that has room
  pub sends-to-roomy : (result : Result SendOutcome SendError) (s' : State T U)
      → Shows new (messages_after_send m n l result) s' → SendsToConnection environment s n l channel place result s'
      → (subscriber : Subscriber) → IsAtConnection old p place subscriber → IsConnected old p subscriber
      → HasItsBuffer old subscriber
      → length (payloads_from old p subscriber) < subscriber.buffer_size → IsUnhindered (result_of_send result)
  sends-to-roomy result s' shown' h subscriber at is =
      connection-roomy old new m s shown environment n l out p its place result s' shown'
      (in-first result s' h) subscriber at is
