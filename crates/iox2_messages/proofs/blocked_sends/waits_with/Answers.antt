use Rattle.std.proofs.Common.{◌≡◌, ℕ, None, Some, slice_index_or, get_or, refl, ap, sym, subst, ◌∙◌}
use Rattle.std.proofs.lemmas.Bool.{eqb-true, eq-eqb}
use Rattle.std.proofs.lemmas.Option.{same_Some}
use Rattle.std.specs.declared.option.Option.{Option}
use Rattle.std.specs.Option.{option_map}
use Rattle.slab.specs.Slab.{get}
use Rattle.iox2_machine.specs.machine.Records.{Publisher, BlockedSend}
use Rattle.iox2_machine.specs.machine.SingleCalls.{HoldsBlocked}
use Rattle.iox2_connections.specs.Mailboxes.{sender_ends}
use Rattle.iox2_connections.proofs.Counts.{in_range}
use Rattle.iox2_connections.proofs.ReclaimedPuts.{own-in_use}
use Rattle.iox2_domain.specs.declared.publisher_state.BlockedDelivery.{BlockedDelivery}
use Rattle.iox2_domain.specs.Ports.{PublisherFields}
use Rattle.iox2_domain.specs.BlockedSends.{waiting_send}
use Rattle.iox2_domain.specs.Fields.{Fields, kept_of, number_in_slot, publisher_of, blocked_send}
use Rattle.iox2_domain.specs.Invariant.{IsDomain}
use Rattle.iox2_domain.specs.Kept.{state_of}
use Rattle.iox2_domain.proofs.lemmas.fields.ConnectionEnds.{publisher-stands}
use Rattle.iox2_domain.proofs.lemmas.loans.LoanSlots.{number-at}
use Rattle.iox2_domain.proofs.lemmas.slots.ConnectionSlots.{index-got}
use Rattle.iox2_domain.proofs.lemmas.slots.PublisherBooks.{read-there, book-there, book-own}
use Rattle.iox2_steps.proofs.sends.BlockedSteps.{waits-own}
use Rattle.iox2_messages.proofs.blocked_sends.waits_with.Goals as goal

module _ {T U : Type 0} (f : Fields T U) (sound : IsDomain f) (i : ℕ) (x : PublisherFields)
    (here : get_or f.publishers i None ≡ Some x) (n : ℕ) where
  -- the machine's publisher waits with the message in the slot
  waits : (d : BlockedDelivery) → x.blocked ≡ Some d → number_in_slot f.books x.id d.slot ≡ n
      → HoldsBlocked (state_of (kept_of f)) x.id n
  waits d has number = (
    (publisher_of f.books f.connections x).port,
    waiting_send f x d,
    publisher-stands f sound.parts i x here,
    ap (option_map (blocked_send (number_in_slot f.books x.id) (sender_ends f.connections x.keys))) has,
    number,
  )

  -- and with no other
  waited : HoldsBlocked (state_of (kept_of f)) x.id n
      → (d : BlockedDelivery) × (x.blocked ≡ Some d) × (number_in_slot f.books x.id d.slot ≡ n)
  waited held = by x.blocked refl where
    same-port : held.0 ≡ (publisher_of f.books f.connections x).port
    same-port = same_Some _ _ (sym held.2 ∙ publisher-stands f sound.parts i x here)

    has : option_map
        (blocked_send (number_in_slot f.books x.id) (sender_ends f.connections x.keys)) x.blocked ≡ Some held.1
    has = sym (ap (λ (y : Publisher). y.blocked) same-port) ∙ held.3

    by : (o : Option BlockedDelivery) → x.blocked ≡ o
        → (d : BlockedDelivery) × (x.blocked ≡ Some d) × (number_in_slot f.books x.id d.slot ≡ n)
    by None e = absurd (let no : None ≡ Some held.1 = sym
        (ap (option_map (blocked_send (number_in_slot f.books x.id) (sender_ends f.connections x.keys))) e) ∙ has in cc)
    by (Some d) e =
        let both : waiting_send f x d ≡ held.1 =
        same_Some _ _
        (sym (ap (option_map (blocked_send (number_in_slot f.books x.id) (sender_ends f.connections x.keys))) e)
        ∙ has) in
        (d, e, ap (λ (b : BlockedSend). b.message) both ∙ held.4)

module _ {T U : Type 0} (f g : Fields T U) (same : f ≡ g) (i : ℕ) (x y : PublisherFields)
    (here : get_or f.publishers i None ≡ Some x) (there : get_or g.publishers i None ≡ Some y) where
  -- the publisher at the place
  one-publisher : x ≡ y
  one-publisher = same_Some x y (sym here ∙ ap (λ (k : Fields T U). get_or k.publishers i None) same ∙ there)

pub returns-in_default-blocked : goal.returns-in_default-blocked
returns-in_default-blocked g c = λ there.
    let x = there.publisher in
    let at = there.stands in
    let stood = read-there _ c.args.place _ _
    (ap (λ (f : Fields g.row.T.Denot g.row.U.Denot). slice_index_or f.publishers c.args.place None) c.state.view_is
    ∙ at) c.index.ensures ∙ c.in-Some.is in
    let same : c.in-Some.publisher ≡ x = one-publisher _ c.args.state.now c.state.view_is c.args.place _ x stood at in
    let free : x.blocked ≡ None = ap (λ (y : PublisherFields). y.blocked) (sym same)
    ∙ ap (λ (y : PublisherFields). y.blocked) (sym c.publisher.view_is) ∙ c.in_default-blocked.is in (
      λ no. absurd cc,
      λ held. let has = (waited c.args.state.now c.requires.agrees c.args.place x at c.args.number held).1 in
          let none : None ≡ Some _ = sym free ∙ has in absurd cc,
    )

pub index-requires-2 : goal.index-requires-2
index-requires-2 g c =
    book-there _ (subst (IsDomain {T = g.row.T.Denot} {U = g.row.U.Denot})
    (sym c.state.view_is) c.requires.agrees).parts c.args.place _
    (read-there _ c.args.place _ _
    (ap (λ (f : Fields g.row.T.Denot g.row.U.Denot). slice_index_or f.publishers c.args.place None) c.state.view_is
    ∙ c.requires.stands) c.index.ensures ∙ c.in-Some.is ∙ ap Some (sym c.publisher.view_is))

pub number-requires : goal.number-requires
number-requires g c =
    in_range _ _
    (own-in_use _ _ _ _
    (waits-own _ (subst (IsDomain {T = g.row.T.Denot} {U = g.row.U.Denot}) (sym c.state.view_is) c.requires.agrees)
    c.args.place _ (read-there _ c.args.place _ _
    (ap (λ (f : Fields g.row.T.Denot g.row.U.Denot). slice_index_or f.publishers c.args.place None) c.state.view_is
    ∙ c.requires.stands) c.index.ensures ∙ c.in-Some.is ∙ ap Some (sym c.publisher.view_is)) c.in-Some-blocked.blocked
    c.in-Some-blocked.is _ c.index-2.ensures))

pub returns : goal.returns
returns g c = λ there.
    let x = there.publisher in
    let at = there.stands in
    let stood = read-there _ c.args.place _ _
    (ap (λ (f : Fields g.row.T.Denot g.row.U.Denot). slice_index_or f.publishers c.args.place None) c.state.view_is
    ∙ at) c.index.ensures ∙ c.in-Some.is in
    let same : c.in-Some.publisher ≡ x = one-publisher _ c.args.state.now c.state.view_is c.args.place _ x stood at in
    let has : x.blocked ≡ Some c.in-Some-blocked.blocked = ap (λ (y : PublisherFields). y.blocked) (sym same)
    ∙ ap (λ (y : PublisherFields). y.blocked) (sym c.publisher.view_is) ∙ c.in-Some-blocked.is in
    let key : c.publisher.inside.book ≡ x.book =
    ap (λ (y : PublisherFields). y.book) c.publisher.view_is ∙ ap (λ (y : PublisherFields). y.book) same in
    let stands : get (c.args.state.now).books x.book ≡ Some c.index-2.result.now =
    subst (λ (k : ℕ). get (c.args.state.now).books k ≡ Some c.index-2.result.now) key
    (ap (λ (f : Fields g.row.T.Denot g.row.U.Denot). get f.books c.publisher.inside.book) (sym c.state.view_is)
    ∙ c.index-2.ensures) in
    let own = book-own c.args.state.now c.requires.agrees.parts c.args.place x at c.index-2.result.now stands in
    let number : number_in_slot (c.args.state.now).books x.id c.in-Some-blocked.blocked.slot ≡ c.number.result =
    ap (λ (p : ℕ). number_in_slot (c.args.state.now).books p c.in-Some-blocked.blocked.slot) (sym own)
    ∙ number-at c.args.state.now c.requires.agrees x.book c.in-Some-blocked.blocked.slot c.index-2.result.now stands
    ∙ index-got (c.index-2.result.now).numbers _ _ c.number.ensures in (
      λ yes. waits c.args.state.now c.requires.agrees c.args.place x at c.args.number c.in-Some-blocked.blocked has
          (number ∙ eqb-true c.number.result c.args.number yes),
      λ held.
          let w = waited c.args.state.now c.requires.agrees c.args.place x at c.args.number held in
          let one : c.in-Some-blocked.blocked ≡ w.0 = same_Some _ _ (sym has ∙ w.1) in
          eq-eqb c.number.result c.args.number (sym number
          ∙ ap (λ (d : BlockedDelivery). number_in_slot (c.args.state.now).books x.id d.slot) one ∙ w.2),
    )
