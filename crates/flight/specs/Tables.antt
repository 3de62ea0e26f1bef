-- The tables of a machine, and what they hold. Assumes nothing.
use Rattle.std.specs.Prelude.{ℕ, ◌+◌, None, List, [], ◌∷◌, ◌++◌, length, vec_items}
use Rattle.flight.specs.declared.machine.Part.{Part}
use Rattle.flight.specs.declared.machine.What.{What}
use Rattle.flight.specs.declared.machine.Binding.{Binding}
use Rattle.flight.specs.declared.machine.Spot.{Spot}
use Rattle.flight.specs.declared.machine.Frame.{Frame}
use Rattle.flight.specs.declared.machine.Entry.{Entry}
use Rattle.flight.specs.declared.machine.Event.TheVariants.{Made as made_event, Lookup as lookup_event}
use Rattle.flight.specs.declared.machine.Machine.{Machine}
pub use Rattle.flight.specs.Links.{no_binding, size_at}

pub record Tables : Type 0 where
  pub frames : List Frame
  pub bindings : List Binding
  pub values : List Part
  pub log : List Entry
  pub begun : ℕ

abbrev pub tables : Machine → Tables
tables m =
    record {
      frames = vec_items m.frames;
      bindings = vec_items m.bindings;
      values = vec_items m.values;
      log = vec_items m.log;
      begun = m.begun;
    }

abbrev pub Made : ℕ → ℕ → Entry
Made k b = record { event = made_event; binder = k; binding = b }

abbrev pub Lookup : ℕ → ℕ → Entry
Lookup k b = record { event = lookup_event; binder = k; binding = b }

abbrev pub the_spot : ℕ → ℕ → ℕ → Spot
the_spot q s d = record { node = q; scope = s; depth = d }

abbrev pub no_frame : Frame
no_frame = record { spot = the_spot 0 0 0; first = None }

abbrev pub new_binding : List Binding → ℕ → What → ℕ → Binding
new_binding bs k w p = record { binder = k; level = size_at bs p; parent = p; what = w }

-- one more binding, which is logged
abbrev pub opened : ℕ → What → ℕ → Tables → Tables
opened k w p t =
    record {
      frames = t.frames;
      bindings = t.bindings ++ (new_binding t.bindings k w p ∷ []);
      values = t.values;
      log = t.log ++ (Made k (length t.bindings) ∷ []);
      begun = t.begun;
    }

abbrev pub noted : Entry → Tables → Tables
noted e t = record { frames = t.frames; bindings = t.bindings; values = t.values; log = t.log ++ (e ∷ []); begun = t.begun }

abbrev pub valued : Part → Tables → Tables
valued p t = record { frames = t.frames; bindings = t.bindings; values = t.values ++ (p ∷ []); log = t.log; begun = t.begun }

abbrev pub pushed : Frame → Tables → Tables
pushed f t = record { frames = t.frames ++ (f ∷ []); bindings = t.bindings; values = t.values; log = t.log; begun = t.begun }

abbrev pub ticked : Tables → Tables
ticked t = record { frames = t.frames; bindings = t.bindings; values = t.values; log = t.log; begun = t.begun + 1 }
