-- The channels of a domain's connections.
use Rattle.std.proofs.Common.{◌≡◌, ℕ, zero, suc, Bool, true, false, cond, List, [], ◌∷◌, Option, None, Some, get_or}
use Rattle.std.proofs.Common.{refl, ap, sym, ◌∙◌}
use Rattle.std.specs.Option.{option_map}
use Rattle.slab.specs.Slab.{Slab}
use Rattle.iox2_connections.specs.Link.{Link, channel_at}
use Rattle.iox2_connections.specs.declared.connection.Home.{Home}
use Rattle.iox2_machine.specs.machine.Channel.{Channel, new_channels}
use Rattle.iox2_connections.specs.LookUp.{look_up}
use Rattle.iox2_connections.specs.Homes.{SameHomes, fixed_of}
use Rattle.iox2_connections.specs.Mailboxes.{is_between, channels_if_any, channels_in}
use Rattle.iox2_domain.specs.Kept.{state_of, stands_between, channels_if_between}
use Rattle.iox2_domain.specs.Fields.{Fields, kept_of, between_of}
use Rattle.iox2_domain.specs.Midway.{with_channels_of}
use Rattle.iox2_machine.specs.machine.State.{State}
use Rattle.iox2_domain.proofs.lemmas.containers.LookUps.{look_up-map}
use mathlib.Core.Path.{fun_ext}

module _ {T U : Type 0} (f : Fields T U) where
  -- the channels are those of the connections
  pub channels-are : (state_of (kept_of f)).channels ≡ channels_in f.connections
  channels-are = fun_ext (λ p. fun_ext (λ q.
      ap channels_if_between (look_up-map (stands_between p q) (between_of f.books f.connections) f.connections.slots)
      ∙ by (look_up (is_between p q) f.connections.slots)))
    where
      by : (o : Option Link) → channels_if_between (option_map (between_of f.books f.connections) o) ≡ channels_if_any o
      by None = refl
      by (Some c) = refl

-- a state that is kept is kept, whatever is said of its channels
pub but-channels : {T U : Type 0} (f : Fields T U) (s : State T U) → state_of (kept_of f) ≡ s
    → state_of (kept_of f) ≡ with_channels_of f s
but-channels f s is = ap (with_channels_of f) is

-- where the channels are the same, the whole state is
pub whole-state : {T U : Type 0} (f : Fields T U) (s : State T U) → (state_of (kept_of f)).channels ≡ s.channels
    → state_of (kept_of f) ≡ with_channels_of f s → state_of (kept_of f) ≡ s
whole-state f s same is = is ∙ ap (λ (channels : ℕ → ℕ → ℕ → Channel). record s { channels = channels }) same

-- records that give the same values, key by key, are found alike by a test on these values
pub look_up-alike : {A B : Type 0} (g : A → B) (test : B → Bool) (xs ys : List (Option A))
    → ((k : ℕ) → option_map g (get_or ys k None) ≡ option_map g (get_or xs k None))
    → option_map g (look_up (λ x. test (g x)) ys) ≡ option_map g (look_up (λ x. test (g x)) xs)
look_up-alike g test [] [] same = refl
look_up-alike g test [] (None ∷ ys) same = look_up-alike g test [] ys (λ k. same (suc k) ∙ sym (empty k)) where
  empty : (k : ℕ) → option_map g (get_or [] k None) ≡ option_map g (get_or [] (suc k) None)
  empty zero = refl
  empty (suc k) = refl
look_up-alike g test [] (Some y ∷ ys) same = absurd (let no : Some (g y) ≡ None = same zero in cc)
look_up-alike g test (None ∷ xs) [] same = look_up-alike g test xs [] (λ k. empty k ∙ same (suc k)) where
  empty : (k : ℕ) → option_map g (get_or [] k None) ≡ option_map g (get_or [] (suc k) None)
  empty zero = refl
  empty (suc k) = refl
look_up-alike g test (Some x ∷ xs) [] same = absurd (let no : None ≡ Some (g x) = same zero in cc)
look_up-alike g test (None ∷ xs) (None ∷ ys) same = look_up-alike g test xs ys (λ k. same (suc k))
look_up-alike g test (None ∷ xs) (Some y ∷ ys) same = absurd (let no : Some (g y) ≡ None = same zero in cc)
look_up-alike g test (Some x ∷ xs) (None ∷ ys) same = absurd (let no : None ≡ Some (g x) = same zero in cc)
look_up-alike g test (Some x ∷ xs) (Some y ∷ ys) same =
    let both : Some (g y) ≡ Some (g x) = same zero in
    let one : g y ≡ g x = cc in
    by (test (g y)) (test (g x)) (ap test one) one (look_up-alike g test xs ys (λ k. same (suc k)))
  where
    by : (a b : Bool) → a ≡ b → g y ≡ g x
        → option_map g (look_up (λ z. test (g z)) ys) ≡ option_map g (look_up (λ z. test (g z)) xs)
        → option_map g (cond a (Some y) (look_up (λ z. test (g z)) ys)) ≡ option_map g
        (cond b (Some x) (look_up (λ z. test (g z)) xs))
    by true true e one rest = ap Some one
    by true false e one rest = absurd cc
    by false true e one rest = absurd cc
    by false false e one rest = rest

-- where connections stay what they are, so do their channels
pub channels-still : (old new : Slab Link) → SameHomes old new → channels_in new ≡ channels_in old
channels-still old new same = fun_ext (λ p. fun_ext (λ q.
    through (look_up (is_between p q) new.slots)
    ∙ ap of_fixed (look_up-alike fixed_of
    (λ (t : Home × ℕ × ℕ × Bool × List Channel). is_between p q (link_at t)) old.slots new.slots same.same)
    ∙ sym (through (look_up (is_between p q) old.slots))))
  where
    -- a connection that has these
    link_at : Home × ℕ × ℕ × Bool × List Channel → Link
    link_at t = record {
      home = t.0;
      buffer = 0;
      limit = 0;
      is_open = false;
      channels = t.4;
      waiting = [];
      borrowed = [];
      returned = [];
      others = [];
    }

    of_fixed : Option (Home × ℕ × ℕ × Bool × List Channel) → ℕ → Channel
    of_fixed None = new_channels
    of_fixed (Some t) = channel_at t.4

    through : (o : Option Link) → channels_if_any o ≡ of_fixed (option_map fixed_of o)
    through None = refl
    through (Some c) = refl
