-- Changes of a publisher's connections and counters, one after the other.
use Rattle.std.proofs.Common.{◌≡◌, ℕ, ◌+◌, ◌<◌, ◌≤◌, List, length, Bool, Option, None, Some, get_or, refl, ap, ◌∙◌, inl}
use Rattle.std.proofs.Common.{inr, arith}
use Rattle.std.proofs.lemmas.Bool.{cases_eq}
use Rattle.slab.specs.Slab.{Slab, get, Updates, with_value}
use Rattle.iox2_connections.specs.Link.{Link, IsPut}
use Rattle.iox2_machine.specs.machine.Channel.{Channel}
use Rattle.iox2_connections.specs.declared.connection.Home.{Home}
use Rattle.iox2_connections.specs.declared.connection.PutOutcome.{PutOutcome}
use Rattle.iox2_connections.specs.declared.connection.PutOutcome.TheVariants.{Taken, Overwrote, Full}
use Rattle.iox2_connections.specs.Homes.{fixed_of}
use Rattle.iox2_connections.specs.Counters.{IsCovered, CanLeave, stands_in, one_holder_more, recounted}
use Rattle.iox2_connections.specs.Recounts.{Recounts, returned_count}
use Rattle.iox2_connections.specs.Receivers.{IsReadyToDeliver}
use Rattle.iox2_connections.specs.declared.sender.ReceiverDetails.{ReceiverDetails}
use Rattle.iox2_connections.proofs.MailboxChanges.{Updates-with_value, SameHomes-updated, SameHomes-trans}
use Rattle.iox2_connections.proofs.MailboxChanges.{KeepsOthers-updated, KeepsOthers-trans}
use Rattle.iox2_connections.proofs.Counts.{CountersFollow-changed, CountersFollow-trans, get_or-one_holder_more}
use Rattle.iox2_connections.proofs.Counts.{get_or-one_holder_less, length-recounted, put-can_leave, put-follows}
use Rattle.iox2_connections.proofs.Counts.{one_if_other}
use Rattle.iox2_connections.proofs.DeliverySteps.{home-of, put-homes, put-others, put-returned, put-home}

-- one connection changed, and no more was given back in it
returned-updated : (slab new : Slab Link) (key : ℕ) (c d : Link) → get slab key ≡ Some c
    → length d.returned ≤ length c.returned → Updates slab new key (Some d)
    → (k : ℕ) → returned_count new k ≤ returned_count slab k
returned-updated slab new key c d at fewer u k = elim (cases_eq k key) [
  | inl same ↦ rw same (rw (u.changed, at) fewer)
  | inr differs ↦ rw (u.others k differs) (omega arith)
]

-- one connection of the publisher changed, and the counters with it
pub Recounts-one : (p : ℕ) (hs hs' : List ℕ) (slab : Slab Link) (key : ℕ) (c d : Link) → get slab key ≡ Some c
    → c.home.publisher ≡ p → fixed_of d ≡ fixed_of c
    → ((n : ℕ) → get_or hs' n 0 + stands_in n c ≡ get_or hs n 0 + stands_in n d) → length hs' ≡ length hs
    → ((n : ℕ) → 0 < get_or hs' n 0 → 0 < get_or hs n 0)
    → length d.returned ≤ length c.returned → Recounts p hs slab hs' (with_value slab key d)
Recounts-one p hs hs' slab key c d at mine fixed counters slots in_use fewer = record {
  homes = SameHomes-updated slab (with_value slab key d) key c d at fixed u;
  others = KeepsOthers-updated p slab (with_value slab key d) key c (Some d) at mine u;
  counters = CountersFollow-changed p hs hs' slab.slots key c d at mine
      (ap (λ (t : Home × ℕ × ℕ × Bool × List Channel). t.0.publisher) fixed ∙ mine) counters;
  slots = slots;
  in_use = in_use;
  fewer = returned-updated slab (with_value slab key d) key c d at fewer u;
}
  where
    u : Updates slab (with_value slab key d) key (Some d)
    u = Updates-with_value slab key c d at

pub Recounts-same : (p : ℕ) (hs : List ℕ) (slab : Slab Link) → Recounts p hs slab hs slab
Recounts-same p hs slab = record {
  homes = record { same = λ key. refl };
  others = record { stay = λ key c at differs. at };
  counters = record { at = λ n. refl };
  slots = refl;
  in_use = λ n some. some;
  fewer = λ key. omega arith;
}

pub Recounts-trans : (p : ℕ) (hs hs' hs'' : List ℕ) (a b c : Slab Link) → Recounts p hs a hs' b
    → Recounts p hs' b hs'' c → Recounts p hs a hs'' c
Recounts-trans p hs hs' hs'' a b c x y = record {
  homes = SameHomes-trans a b c x.homes y.homes;
  others = KeepsOthers-trans p a b c x.others y.others;
  counters = CountersFollow-trans p hs hs' hs'' a.slots b.slots c.slots x.counters y.counters;
  slots = y.slots ∙ x.slots;
  in_use = λ n some. x.in_use n (y.in_use n some);
  fewer = λ key. omega (arith, x.fewer key, y.fewer key);
}

-- a slot that is in use after a put was in use before it
recounted-in_use : (o : PutOutcome) (slot n : ℕ) (hs : List ℕ) → slot < length hs → 0 < get_or hs slot 0 → CanLeave o hs
    → 0 < get_or (recounted o slot hs) n 0 → 0 < get_or hs n 0
recounted-in_use o slot n hs below in_use can some = elim (cases_eq n slot) [
  | inl same ↦ rw same in_use
  | inr differs ↦ by o can some differs
] where
  by : (o : PutOutcome) → CanLeave o hs → 0 < get_or (recounted o slot hs) n 0 → (n ≡ slot → ⊥) → 0 < get_or hs n 0
  by Taken can some differs = omega (arith, some, get_or-one_holder_more hs slot n below, one_if_other n slot differs)
  by (Overwrote oldest) can some differs =
      omega (
        arith,
        some,
        get_or-one_holder_more hs slot n below,
        one_if_other n slot differs,
        get_or-one_holder_less (one_holder_more slot hs) oldest n
            (omega (arith, can, get_or-one_holder_more hs slot oldest below)),
      )
  by Full can some differs = some

module _ {p : ℕ} {slab : Slab Link} {keys : List (Option ℕ)} {receivers : List (Option ReceiverDetails)} (i key : ℕ)
    (ready : IsReadyToDeliver p slab keys receivers) (at : get_or keys i None ≡ Some key) where
  -- a put into a connection of the publisher
  pub put-recounts : (hs : List ℕ) (channel slot : ℕ) (overflow : Bool) (o : PutOutcome) (c d : Link) → slot < length hs
      → 0 < get_or hs slot 0 → IsCovered p hs slab.slots → get slab key ≡ Some c → IsPut channel c slot overflow o d
      → Recounts p hs slab (recounted o slot hs) (with_value slab key d)
  put-recounts hs channel slot overflow o c d below in_use covered was_c put = record {
    homes = put-homes i key ready at channel slot overflow o c d was_c put;
    others = put-others i key ready at channel slot overflow o c d was_c put;
    counters = put-follows p hs slab.slots key channel slot overflow c d o below covered was_c mine
        (put-home channel c slot overflow o d put) put;
    slots = length-recounted o slot hs;
    in_use = λ n some. recounted-in_use o slot n hs below in_use
        (put-can_leave p hs slab.slots key channel slot overflow c d o covered was_c mine put) some;
    fewer = returned-updated slab (with_value slab key d) key c d was_c
        (omega (arith, ap (length {A = ℕ}) (put-returned channel c slot overflow o d put)))
        (Updates-with_value slab key c d was_c);
  }
    where
      mine : c.home.publisher ≡ p
      mine = (home-of i key ready at c was_c).publisher
