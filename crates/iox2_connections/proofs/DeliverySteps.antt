-- One put of a delivery, seen from the machine.
use Rattle.std.proofs.Common.{◌≡◌, ◌<◌, ◌≤◌, ◌+◌, length, map, drop, ℕ, zero, suc, List, [], ◌∷◌, ◌++◌, Bool, true}
use Rattle.std.proofs.Common.{false, cond, not, ◌&&◌, ◌||◌, eqb, nat_lt, Option, None, Some, get_or, refl, ap, sym, ◌∙◌}
use Rattle.std.proofs.Common.{subst, inl, inr, ◌⊎◌, arith}
use Rattle.std.proofs.lemmas.Bool.{eqb-true, ne_eqb}
use Rattle.std.proofs.lemmas.List.{drop_more, drop_all, map-append, length-map}
use Rattle.std.proofs.Math.ListN.{get_or-map}
use Rattle.std.specs.Option.{option_map, option_and_then}
use Rattle.std.specs.Prelude.{IsSomeAnd}
use Rattle.slab.specs.Slab.{Slab, get, with_value, ContainsKey}
use Rattle.iox2_connections.specs.Link.{Link, slots_in, with_slots_in, is_shut_in, IsPut}
use Rattle.iox2_machine.specs.machine.Channel.{Channel, is_closed}
use Rattle.iox2_machine.specs.machine.Mailbox.{Mailbox, waiting_in, with_waiting_in, has_room}
use Rattle.iox2_machine.specs.machine.Records.{Environment}
use Rattle.iox2_machine.specs.machine.Delivery.{PutResult, Skipped, DeliveryEnd, Put, is_blocking, is_failed}
use Rattle.iox2_machine.specs.machine.Delivery.{accepted_count, Deliver}
use Rattle.iox2_machine.specs.declared.service_config.ServiceConfig.{ServiceConfig}
use Rattle.iox2_connections.specs.declared.connection.Home.{Home}
use Rattle.iox2_connections.specs.declared.connection.PutOutcome.{PutOutcome}
use Rattle.iox2_connections.specs.declared.connection.PutOutcome.TheVariants.{Taken, Overwrote, Full}
use Rattle.iox2_machine.specs.declared.backpressure_handler.BackpressureHandler.{BackpressureHandler}
use Rattle.iox2_connections.specs.declared.sender.ReceiverDetails.{ReceiverDetails}
use Rattle.iox2_connections.specs.declared.sender.Delivery.{Delivery}
use Rattle.iox2_connections.specs.declared.sender.Reception.{Reception}
use Rattle.iox2_connections.specs.declared.sender.DeliveryOutcome.{DeliveryOutcome}
use Rattle.iox2_connections.specs.LookUp.{look_up, IsOnly}
use Rattle.iox2_connections.specs.Mailboxes.{mailbox_of, mailboxes_of, subscriber_of_key, sender_ends}
use Rattle.iox2_connections.specs.Homes.{IsApart, SameHomes, KeepsOthers, IsSenders, IsSenderLinked, fixed_of}
use Rattle.iox2_connections.specs.Receivers.{has_id, buffer_if_open, buffers_of, taking_buffers, is_open_one}
use Rattle.iox2_connections.specs.Receivers.{is_open_at, takes_at, KnowsReceivers, HaveChannel, IsReadyToDeliver}
use Rattle.iox2_connections.specs.Handlers.{marks_of}
use Rattle.iox2_connections.specs.Deliveries.{result_of, end_of, retries_at, elapsed_at, ComesTo, PutsMessage}
use Rattle.iox2_connections.proofs.OtherNumbers.{waiting-in, with-waiting-in}
use Rattle.iox2_connections.proofs.LookUps.{look_up-found, look_up-there}
use Rattle.iox2_connections.proofs.MailboxChanges.{Updates-with_value, SameHomes-updated, KeepsOthers-updated, was}
use Rattle.iox2_connections.proofs.MailboxChanges.{IsApart-same, both-true, mailbox-there, channels-there}
use Rattle.iox2_connections.proofs.MailboxChanges.{channels-same, row-changed, put_at-own}
use mathlib.Core.Path.{fun_ext}

-- ---- the connection at a place

-- a key at a publisher's place leads to its connection
pub there : (p : ℕ) (slab : Slab Link) (keys : List (Option ℕ)) (i key : ℕ) → IsSenderLinked p slab keys
    → get_or keys i None ≡ Some key → (c : Link) × (get slab key ≡ Some c) × IsSenders p i c
there p slab keys i key l at = by (get slab key) refl (l.at i key at) where
  by : (o : Option Link) → get slab key ≡ o → IsSomeAnd o (IsSenders p i)
      → (c : Link) × (get slab key ≡ Some c) × IsSenders p i c
  by None e h = absurd h
  by (Some c) e h = (c, e, h)

pub contains-at : (p : ℕ) (slab : Slab Link) (keys : List (Option ℕ)) (i key : ℕ) → IsSenderLinked p slab keys
    → get_or keys i None ≡ Some key → ContainsKey slab key
contains-at p slab keys i key l at = let c = there p slab keys i key l at in rw c.1 refl

-- the connection found at a place is its publisher's
pub senders-at : (p : ℕ) (slab : Slab Link) (keys : List (Option ℕ)) (i key : ℕ) (c : Link) → IsSenderLinked p slab keys
    → get_or keys i None ≡ Some key → get slab key ≡ Some c → IsSenders p i c
senders-at p slab keys i key c l at is = let h = there p slab keys i key l at in
    let e : Some h.0 ≡ Some c = sym h.1 ∙ is in subst (IsSenders p i) (let f : h.0 ≡ c = cc in f) h.2

-- two looks at one key find one connection
pub same_link : (slab : Slab Link) (key : ℕ) (b c : Link) → get slab key ≡ Some b → get slab key ≡ Some c → b ≡ c
same_link slab key b c at_b at_c = let e : Some b ≡ Some c = sym at_b ∙ at_c in let f : b ≡ c = cc in f

-- ---- receivers

-- the open receiver that stands at the place is the one with that id
pub buffers-open : (slab : Slab Link) (receivers : List (Option ReceiverDetails)) (key i : ℕ) (c : Link)
    → KnowsReceivers slab receivers → IsOnly (has_id c.home.subscriber) receivers → get slab key ≡ Some c
    → is_open_at receivers i c.home.subscriber ≡ true → buffers_of receivers c.home.subscriber ≡ Some c.buffer
buffers-open slab receivers key i c knows only at receiving = by (get_or receivers i None) refl receiving where
  by : (o : Option ReceiverDetails) → get_or receivers i None ≡ o → is_open_one c.home.subscriber o ≡ true
      → buffers_of receivers c.home.subscriber ≡ Some c.buffer
  by None e h = absurd cc
  by (Some y) e h =
      let parts = both-true _ _ h in
      rw (look_up-found (has_id c.home.subscriber) receivers i y only e parts.0, parts.1)
      (ap Some (sym (knows.at key i c y at e (eqb-true _ _ parts.0)).1))

-- where none stands open at its place, none with that id takes messages
pub buffers-closed : (slab : Slab Link) (receivers : List (Option ReceiverDetails)) (key : ℕ) (c : Link)
    → KnowsReceivers slab receivers → get slab key ≡ Some c
    → is_open_at receivers c.home.subscriber_place c.home.subscriber ≡ false
    → buffers_of receivers c.home.subscriber ≡ None
buffers-closed slab receivers key c knows at not_receiving =
    by (look_up (has_id c.home.subscriber) receivers) refl where
      by : (o : Option ReceiverDetails) → look_up (has_id c.home.subscriber) receivers ≡ o
          → option_and_then buffer_if_open o ≡ None
      by None e = refl
      by (Some y) e =
          let found = look_up-there (has_id c.home.subscriber) receivers y e in
          let same : found.0 ≡ c.home.subscriber_place =
          (knows.at key found.0 c y at found.1 (eqb-true _ _ found.2)).0 in
          let here : get_or receivers c.home.subscriber_place None ≡ Some y =
          sym (ap (λ (k : ℕ). get_or receivers k None) same) ∙ found.1 in
          let shut : (eqb y.port_id c.home.subscriber && y.is_open) ≡ false = rw here at not_receiving in
          rw (rw found.2 at shut) refl

-- what a connection that takes messages in a channel says of its receiver and of the channel
takes-both : (receivers : List (Option ReceiverDetails)) (i channel : ℕ) (c : Link)
    → takes_at receivers i channel c ≡ true
    → (is_open_at receivers i c.home.subscriber ≡ true) × (not (is_shut_in channel c) ≡ true)
takes-both receivers i channel c h = both-true (is_open_at receivers i c.home.subscriber) (not (is_shut_in channel c)) h

takes-open : (receivers : List (Option ReceiverDetails)) (i channel : ℕ) (c : Link)
    → takes_at receivers i channel c ≡ true → is_open_at receivers i c.home.subscriber ≡ true
takes-open receivers i channel c h = (takes-both receivers i channel c h).0

takes-shut : (receivers : List (Option ReceiverDetails)) (i channel : ℕ) (c : Link)
    → takes_at receivers i channel c ≡ true → is_shut_in channel c ≡ false
takes-shut receivers i channel c h = by (is_shut_in channel c) (takes-both receivers i channel c h).1 where
  by : (b : Bool) → not b ≡ true → b ≡ false
  by true e = absurd cc
  by false e = refl

-- one that doesn't has a receiver that isn't open, or a closed channel
takes-not : (receivers : List (Option ReceiverDetails)) (i channel : ℕ) (c : Link)
    → takes_at receivers i channel c ≡ false
    → (is_open_at receivers i c.home.subscriber ≡ false) ⊎ (is_shut_in channel c ≡ true)
takes-not receivers i channel c h = by (is_open_at receivers i c.home.subscriber) (is_shut_in channel c) h where
  by : (a b : Bool) → (a && not b) ≡ false → (a ≡ false) ⊎ (b ≡ true)
  by false b e = inl refl
  by true true e = inr refl
  by true false e = absurd cc

cond-same : {A : Type 0} (b : Bool) (x : A) → cond b x x ≡ x
cond-same true x = refl
cond-same false x = refl

-- ---- a put

lt-true : (a b : ℕ) → a < b → nat_lt a b ≡ true
lt-true a b e = grind arith

lt-false : (a b : ℕ) → a ≡ b → nat_lt a b ≡ false
lt-false a b e = grind arith

-- one put, at numbers
module _ {F : Type 0} (environment : Environment) (number : ℕ → ℕ) (config : ServiceConfig) (v : Delivery)
    (handler : Option (BackpressureHandler F)) (place q : ℕ) (buffers : ℕ → Option ℕ) (c d : Link) where
  abbrev box : Mailbox
  box = mailbox_of number c

  waits : waiting_in v.channel box ≡ map number (slots_in v.channel c)
  waits = waiting-in number v.channel c

  as-long : length (waiting_in v.channel box) ≡ length (slots_in v.channel c)
  as-long = ap (length {A = ℕ}) waits ∙ length-map (slots_in v.channel c) number

  -- other slots in the channel
  replaced : (slots : List ℕ) (ns : List ℕ) → d ≡ with_slots_in v.channel (slots ++ v.slot ∷ []) c
      → map number slots ≡ ns → mailbox_of number d ≡ with_waiting_in v.channel (ns ++ number v.slot ∷ []) box
  replaced slots ns is same =
      ap (mailbox_of number) is ∙ sym (with-waiting-in number v.channel (slots ++ v.slot ∷ []) c)
      ∙ ap (λ (xs : List ℕ). with_waiting_in v.channel xs box)
      (map-append number slots (v.slot ∷ []) ∙ ap (λ (xs : List ℕ). xs ++ number v.slot ∷ []) same)

  pub put-mailbox : (o : PutOutcome) (result : PutResult) → IsPut v.channel c v.slot config.enable_safe_overflow o d
      → ComesTo environment config v handler place q o result
      → Put environment config v.publisher v.strategy (marks_of handler) buffers (number v.slot) v.channel q
      (retries_at v place) (elapsed_at v place) (Some c.buffer) (mailbox_of number c) result (mailbox_of number d)
  put-mailbox Taken result h comes =
      let room : has_room v.channel c.buffer (mailbox_of number c) ≡ true =
      lt-true (length (waiting_in v.channel (mailbox_of number c))) c.buffer (omega (arith, as-long, h.0)) in
      rw room (comes, replaced (slots_in v.channel c) (waiting_in v.channel (mailbox_of number c)) h.1 (sym waits))
  put-mailbox (Overwrote oldest) result h comes =
      let full : has_room v.channel c.buffer (mailbox_of number c) ≡ false =
      lt-false (length (waiting_in v.channel (mailbox_of number c))) c.buffer (as-long ∙ h.1) in
      rw (full, h.0) (
        comes,
        replaced h.2.0 (drop 1 (waiting_in v.channel (mailbox_of number c))) h.2.2
            (sym (ap (λ (xs : List ℕ). drop 1 xs) (waits ∙ ap (map number) h.2.1))),
      )
  put-mailbox Full result h comes =
      let full : has_room v.channel c.buffer (mailbox_of number c) ≡ false =
      lt-false (length (waiting_in v.channel (mailbox_of number c))) c.buffer (as-long ∙ h.1) in
      rw (full, h.0) (comes, ap (mailbox_of number) h.2)

-- other slots in a channel leave what never changes, and what was given back
slots-fixed : (channel : ℕ) (slots : List ℕ) (c : Link) → fixed_of (with_slots_in channel slots c) ≡ fixed_of c
slots-fixed zero slots c = refl
slots-fixed (suc k) slots c = refl

slots-returned : (channel : ℕ) (slots : List ℕ) (c : Link) → (with_slots_in channel slots c).returned ≡ c.returned
slots-returned zero slots c = refl
slots-returned (suc k) slots c = refl

-- a put leaves what never changes
pub put-fixed : (channel : ℕ) (c : Link) (slot : ℕ) (overflow : Bool) (o : PutOutcome) (d : Link)
    → IsPut channel c slot overflow o d → fixed_of d ≡ fixed_of c
put-fixed channel c slot overflow Taken d h = ap fixed_of h.1 ∙ slots-fixed channel (slots_in channel c ++ slot ∷ []) c
put-fixed channel c slot overflow (Overwrote _) d h = ap fixed_of h.2.2 ∙ slots-fixed channel (h.2.0 ++ slot ∷ []) c
put-fixed channel c slot overflow Full d h = ap fixed_of h.2

-- a put leaves the connection where it stands
pub put-home : (channel : ℕ) (c : Link) (slot : ℕ) (overflow : Bool) (o : PutOutcome) (d : Link)
    → IsPut channel c slot overflow o d → d.home ≡ c.home
put-home channel c slot overflow o d h =
    ap (λ (t : Home × ℕ × ℕ × Bool × List Channel). t.0) (put-fixed channel c slot overflow o d h)

-- a put leaves what was given back
pub put-returned : (channel : ℕ) (c : Link) (slot : ℕ) (overflow : Bool) (o : PutOutcome) (d : Link)
    → IsPut channel c slot overflow o d → d.returned ≡ c.returned
put-returned channel c slot overflow Taken d h =
    ap (λ (e : Link). e.returned) h.1 ∙ slots-returned channel (slots_in channel c ++ slot ∷ []) c
put-returned channel c slot overflow (Overwrote _) d h =
    ap (λ (e : Link). e.returned) h.2.2 ∙ slots-returned channel (h.2.0 ++ slot ∷ []) c
put-returned channel c slot overflow Full d h = ap (λ (e : Link). e.returned) h.2

module _ {p : ℕ} {slab : Slab Link} {keys : List (Option ℕ)} {receivers : List (Option ReceiverDetails)} (i key : ℕ)
    (ready : IsReadyToDeliver p slab keys receivers) (at : get_or keys i None ≡ Some key) where
  pub home-of : (c : Link) → get slab key ≡ Some c → IsSenders p i c
  home-of c was_c = senders-at p slab keys i key c ready.linked at was_c

  -- its channel says whether its receiver may take messages
  taking-there : (channel : ℕ) (c : Link) → get slab key ≡ Some c
      → taking_buffers slab p channel receivers c.home.subscriber ≡ cond (is_shut_in channel c) None
      (buffers_of receivers c.home.subscriber)
  taking-there channel c was_c =
      ap (λ (channels : ℕ → Channel). cond (is_closed (channels channel)) None (buffers_of receivers c.home.subscriber))
      (channels-there slab key p c.home.subscriber c ready.apart was_c (home-of c was_c).publisher refl)

  pub put-homes : (channel slot : ℕ) (overflow : Bool) (o : PutOutcome) (c d : Link) → get slab key ≡ Some c
      → IsPut channel c slot overflow o d → SameHomes slab (with_value slab key d)
  put-homes channel slot overflow o c d was_c put = SameHomes-updated slab (with_value slab key d) key c d was_c
      (put-fixed channel c slot overflow o d put) (Updates-with_value slab key c d was_c)

  pub put-others : (channel slot : ℕ) (overflow : Bool) (o : PutOutcome) (c d : Link) → get slab key ≡ Some c
      → IsPut channel c slot overflow o d → KeepsOthers p slab (with_value slab key d)
  put-others channel slot overflow o c d was_c put =
      KeepsOthers-updated p slab (with_value slab key d) key c (Some d) was_c (home-of c was_c).publisher
      (Updates-with_value slab key c d was_c)

  -- a put is the machine's, at the end to which the place leads
  pub put-puts : {F : Type 0} (environment : Environment) (config : ServiceConfig) (v : Delivery)
      (handler : Option (BackpressureHandler F)) (o : PutOutcome) (c d : Link) (result : Reception) → v.publisher ≡ p
      → get slab key ≡ Some c → takes_at receivers i v.channel c ≡ true
      → IsPut v.channel c v.slot config.enable_safe_overflow o d
      → ComesTo environment config v handler i c.home.subscriber o (result_of result) → (number : ℕ → ℕ → ℕ)
      → PutsMessage environment config v handler (taking_buffers slab p v.channel receivers) (number p v.slot) i
      (subscriber_of_key slab (get_or keys i None)) (mailboxes_of number slab p) (result_of result)
      (mailboxes_of number (with_value slab key d) p)
  put-puts environment config v handler o c d result by_p was_c receiving put comes number =
      rw (at, was_c) (
        mailbox_of (number p) d,
        goes,
        fun_ext (λ q. row-changed number slab (with_value slab key d) key p c d ready.apart
            (IsApart-same slab (with_value slab key d) ready.apart
            (put-homes v.channel v.slot config.enable_safe_overflow o c d was_c put)) was_c
            (home-of c was_c).publisher (ap (λ (t : Home × ℕ × ℕ × Bool × List Channel). t.0)
            (put-fixed v.channel c v.slot config.enable_safe_overflow o d put))
            (Updates-with_value slab key c d was_c) q),
      )
    where
      takes : taking_buffers slab p v.channel receivers c.home.subscriber ≡ Some c.buffer
      takes = taking-there v.channel c was_c
          ∙ ap (λ (b : Bool). cond b None (buffers_of receivers c.home.subscriber))
          (takes-shut receivers i v.channel c receiving)
          ∙ buffers-open slab receivers key i c ready.knows (ready.one_id c.home.subscriber) was_c
          (takes-open receivers i v.channel c receiving)

      goes : Put environment config v.publisher v.strategy (marks_of handler)
          (taking_buffers slab p v.channel receivers) (number p v.slot) v.channel c.home.subscriber (retries_at v i)
          (elapsed_at v i) (taking_buffers slab p v.channel receivers c.home.subscriber)
          (mailboxes_of number slab p c.home.subscriber) (result_of result) (mailbox_of (number p) d)
      goes = rw (
        mailbox-there number slab key p c.home.subscriber c ready.apart was_c (home-of c was_c).publisher refl,
        takes,
      )
          (put-mailbox environment (number p) config v handler i c.home.subscriber
          (taking_buffers slab p v.channel receivers) c d o (result_of result) put comes)

  -- a closed receiver is skipped, and so is a closed channel
  pub put-passes : {F : Type 0} (environment : Environment) (config : ServiceConfig) (v : Delivery)
      (handler : Option (BackpressureHandler F)) (c : Link) → get slab key ≡ Some c
      → takes_at receivers i v.channel c ≡ false → (number : ℕ → ℕ → ℕ)
      → PutsMessage environment config v handler (taking_buffers slab p v.channel receivers) (number p v.slot) i
      (subscriber_of_key slab (get_or keys i None)) (mailboxes_of number slab p) Skipped (mailboxes_of number slab p)
  put-passes environment config v handler c was_c shut number =
      rw (at, was_c) (
        mailboxes_of number slab p c.home.subscriber,
        skipped,
        put_at-own (mailboxes_of number slab p) c.home.subscriber,
      )
    where
      none : taking_buffers slab p v.channel receivers c.home.subscriber ≡ None
      none = taking-there v.channel c was_c
          ∙ elim (takes-not receivers i v.channel c shut) [
            | inl away ↦ ap (cond (is_shut_in v.channel c) None)
                (buffers-closed slab receivers key c ready.knows was_c (rw (home-of c was_c).place away))
                ∙ cond-same (is_shut_in v.channel c) None
            | inr closed ↦ ap (λ (b : Bool). cond b None (buffers_of receivers c.home.subscriber)) closed
          ]

      skipped : Put environment config v.publisher v.strategy (marks_of handler)
          (taking_buffers slab p v.channel receivers) (number p v.slot) v.channel c.home.subscriber (retries_at v i)
          (elapsed_at v i) (taking_buffers slab p v.channel receivers c.home.subscriber)
          (mailboxes_of number slab p c.home.subscriber) Skipped (mailboxes_of number slab p c.home.subscriber)
      skipped = rw none (refl, refl)

-- ---- the loop

-- keys stay linked
pub IsSenderLinked-same : (p : ℕ) (old new : Slab Link) (keys : List (Option ℕ)) → IsSenderLinked p old keys
    → SameHomes old new → IsSenderLinked p new keys
IsSenderLinked-same p old new keys linked same =
    record { at = λ i key e. by i key (there p old keys i key linked e) (get new key) refl } where
      by : (i key : ℕ) → (c : Link) × (get old key ≡ Some c) × IsSenders p i c → (o : Option Link) → get new key ≡ o
          → IsSomeAnd o (IsSenders p i)
      by i key c None e =
          absurd (let h : option_map fixed_of (get new key) ≡ option_map fixed_of (get old key) = same.same key in
          let h' : option_map fixed_of None ≡ option_map fixed_of (Some c.0) = rw (e, c.1) at h in cc)
      by i key c (Some d) e =
          let c' = was old new key d same e in
          let f : c'.0 ≡ c.0 = same_link old key c'.0 c.0 c'.1 c.1 in
          let home : c.0.home ≡ d.home =
          sym (ap (λ (x : Link). x.home) f) ∙ ap (λ (t : Home × ℕ × ℕ × Bool × List Channel). t.0) c'.2 in
          record {
            publisher = sym (ap (λ (h : Home). h.publisher) home) ∙ c.2.publisher;
            place = sym (ap (λ (h : Home). h.subscriber_place) home) ∙ c.2.place;
          }

-- what a delivery needs is there after each of its puts
pub IsReadyToDeliver-same : (p : ℕ) (old new : Slab Link) (keys : List (Option ℕ))
    (receivers : List (Option ReceiverDetails)) → IsReadyToDeliver p old keys receivers → SameHomes old new
    → IsReadyToDeliver p new keys receivers
IsReadyToDeliver-same p old new keys receivers ready same = record {
  linked = IsSenderLinked-same p old new keys ready.linked same;
  apart = IsApart-same old new ready.apart same;
  knows = record {
    at = λ key i c y at_c at_y e.
        let c' = was old new key c same at_c in
        let know = ready.knows.at key i c'.0 y c'.1 at_y
        (e ∙ sym (ap (λ (t : Home × ℕ × ℕ × Bool × List Channel). t.0.subscriber) c'.2)) in (
          know.0 ∙ ap (λ (t : Home × ℕ × ℕ × Bool × List Channel). t.0.subscriber_place) c'.2,
          sym (ap (λ (t : Home × ℕ × ℕ × Bool × List Channel). t.1) c'.2) ∙ know.1,
        );
  };
  marked = λ key c at_c is_marked.
      let c' = was old new key c same at_c in
      ap (λ (t : Home × ℕ × ℕ × Bool × List Channel). is_open_at receivers t.0.subscriber_place t.0.subscriber)
      (sym c'.2)
      ∙ ready.marked key c'.0 c'.1 (ap (λ (t : Home × ℕ × ℕ × Bool × List Channel). t.3) c'.2 ∙ is_marked);
  one_id = ready.one_id;
}

-- each connection has the channels that it had
pub HaveChannel-same : (channel : ℕ) (old new : Slab Link) → HaveChannel channel old → SameHomes old new
    → HaveChannel channel new
HaveChannel-same channel old new have same = record {
  at = λ key c at some.
      let c' = was old new key c same at in
      let long : length c'.0.channels ≡ length c.channels =
      ap (λ (t : Home × ℕ × ℕ × Bool × List Channel). length t.4) c'.2 in
      omega (arith, long, have.at key c'.0 c'.1 some);
}

-- the same receivers take messages after each of its puts
pub taking-same : (p channel : ℕ) (old new : Slab Link) (receivers : List (Option ReceiverDetails)) → IsApart old
    → SameHomes old new → taking_buffers new p channel receivers ≡ taking_buffers old p channel receivers
taking-same p channel old new receivers apart same =
    ap {B = ℕ → Option ℕ} (λ (channels : ℕ → ℕ → ℕ → Channel) (q : ℕ). cond {A = Option ℕ}
    (is_closed (channels p q channel)) None (buffers_of receivers q)) (channels-same old new apart same)

pub puts-same : {F : Type 0} (environment : Environment) (config : ServiceConfig) (v : Delivery)
    (handler : Option (BackpressureHandler F)) (old now : Slab Link) (receivers : List (Option ReceiverDetails))
    (n i : ℕ) (end : Option ℕ) (boxes : ℕ → Mailbox) (result : PutResult) (boxes' : ℕ → Mailbox)
    → IsApart old → SameHomes old now → PutsMessage environment config v handler
    (taking_buffers now v.publisher v.channel receivers) n i end boxes result boxes'
    → PutsMessage environment config v handler
    (taking_buffers old v.publisher v.channel receivers) n i end boxes result boxes'
puts-same environment config v handler old now receivers n i end boxes result boxes' apart same puts =
    subst (λ (buffers : ℕ → Option ℕ). PutsMessage environment config v handler buffers n i end boxes result boxes')
    (taking-same v.publisher v.channel old now receivers apart same) puts

-- a key leads to the same subscriber
pub subscriber_of_key-same : (old new : Slab Link) → SameHomes old new → (x : Option ℕ)
    → subscriber_of_key new x ≡ subscriber_of_key old x
subscriber_of_key-same old new same None = refl
subscriber_of_key-same old new same (Some key) = by (get old key) (get new key) refl refl (same.same key) where
  by : (o n : Option Link) → get old key ≡ o → get new key ≡ n → option_map fixed_of (get new key) ≡ option_map fixed_of
      (get old key) → subscriber_of_key new (Some key) ≡ subscriber_of_key old (Some key)
  by None None e f h = rw (e, f) refl
  by None (Some d) e f h =
      absurd (let h' : option_map fixed_of (Some d) ≡ option_map fixed_of None = rw (e, f) at h in cc)
  by (Some c) None e f h =
      absurd (let h' : option_map fixed_of None ≡ option_map fixed_of (Some c) = rw (e, f) at h in cc)
  by (Some c) (Some d) e f h = rw (e, f) (let h' : Some (fixed_of d) ≡ Some (fixed_of c) = rw (e, f) at h in
      let g : fixed_of d ≡ fixed_of c = cc in ap (λ (t : Home × ℕ × ℕ × Bool × List Channel). Some t.0.subscriber) g)

pub ends-at : (old now : Slab Link) (keys : List (Option ℕ)) (i : ℕ) → SameHomes old now
    → subscriber_of_key now (get_or keys i None) ≡ get_or (sender_ends old keys) i None
ends-at old now keys i same =
    subscriber_of_key-same old now same (get_or keys i None) ∙ sym (get_or-map (subscriber_of_key old) keys i None)

module _ {F : Type 0} (environment : Environment) (config : ServiceConfig) (d : Delivery)
    (handler : Option (BackpressureHandler F)) (buffers : ℕ → Option ℕ) where
  -- The machine's delivery of the message n to these ends, which stand from that place on, in the publisher's
  -- mailboxes.
  abbrev pub DeliversMessage : (n place : ℕ) → List (Option ℕ) → (count : ℕ) → (has_failed : Bool) → (ℕ → Mailbox)
      → DeliveryEnd → (ℕ → Mailbox) → Type 0
  DeliversMessage n place ends count has_failed boxes how boxes' =
      Deliver environment config d.publisher d.strategy (marks_of handler) buffers n d.channel (retries_at d place)
      (elapsed_at d place) place ends count has_failed boxes how boxes'

-- behind the first place each receiver is asked anew
anew : (v : Delivery) (i : ℕ) → (v.start).place ≤ i → eqb (i + 1) (v.start).place ≡ false
anew v i from = ne_eqb (i + 1) (v.start).place (λ e. absurd (omega arith))

module _ {F : Type 0} (environment : Environment) (config : ServiceConfig) (v : Delivery)
    (handler : Option (BackpressureHandler F)) (buffers : ℕ → Option ℕ) (n : ℕ) (ends : List (Option ℕ)) where
  -- a put that doesn't block is one step of the delivery
  pub deliver-more : (i count : ℕ) (has_failed : Bool) (boxes mid boxes' : ℕ → Mailbox) (d : Reception)
      (how : DeliveryEnd) → i < length ends → (v.start).place ≤ i
      → PutsMessage environment config v handler buffers n i (get_or ends i None) boxes (result_of d) mid
      → is_blocking (result_of d) ≡ false
      → DeliversMessage environment config v handler buffers n (i + 1) (drop (i + 1) ends)
      (count + accepted_count (result_of d)) (has_failed || is_failed (result_of d)) mid how boxes'
      → DeliversMessage environment config v handler buffers n i (drop i ends) count has_failed boxes how boxes'
  deliver-more i count has_failed boxes mid boxes' d how below from at goes rest =
      rw (drop_more ends i None below) (result_of d, mid, at, rw goes (rw (anew v i from) at rest))

  -- a put that blocks ends the delivery
  pub deliver-stops : (i count : ℕ) (has_failed : Bool) (boxes mid : ℕ → Mailbox) (d : Reception) → i < length ends
      → PutsMessage environment config v handler buffers n i (get_or ends i None) boxes (result_of d) mid
      → is_blocking (result_of d) ≡ true
      → DeliversMessage environment config v handler buffers n i (drop i ends) count has_failed boxes
      (end_of n v.channel ends (DeliveryOutcome.Suspended
      (record { place = i; retries = retries_at v i; count = count; has_failed = has_failed }))) mid
  deliver-stops i count has_failed boxes mid d below at stops =
      rw (drop_more ends i None below) (result_of d, mid, at, rw stops (refl, refl))

  -- where no place remains the delivery is over
  pub deliver-ends : (i count : ℕ) (has_failed : Bool) (boxes : ℕ → Mailbox) → length ends ≤ i
      → DeliversMessage environment config v handler buffers n i (drop i ends) count has_failed boxes
      (end_of n v.channel ends (DeliveryOutcome.Complete count has_failed)) boxes
  deliver-ends i count has_failed boxes over = rw (drop_all i ends over) (refl, refl)
