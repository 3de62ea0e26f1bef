-- The lines of a listing, written one after another. Assumes nothing.
use Rattle.std.proofs.Common.{◌≡◌, ℕ, ◌+◌, List, ◌++◌, sym, ap, add-one}
use Rattle.std.specs.Fmt.{IsPlainFormatter, HasWritten}
use Rattle.std.specs.declared.fmt.Formatter.{Formatter}
use Rattle.std.proofs.Output.{writes_in_calls_nil, has_written_append, has_written_of_eq}
use Rattle.listing.specs.declared.table.Listing.{Listing}
use Rattle.listing.specs.Listings.{line_at, line_text, lines_text}

lines_next : (l : Listing) (k : ℕ) → lines_text l (k + 1) ≡ lines_text l k ++ line_text (line_at l k)
unfolding lines_text
lines_next l k = ap (lines_text l) (add-one k)

module _ {W : Type 0} (took : W → List ℕ → W → Type 0) (l : Listing) where
  pub put_no_line : (f : Formatter W) → IsPlainFormatter f → HasWritten took f (lines_text l 0) f
  unfolding lines_text
  put_no_line f h = record { wrote = writes_in_calls_nil took f.writer; plain = h }

  pub put_line : (k : ℕ) (f g h : Formatter W) → HasWritten took f (lines_text l k) g → HasWritten took g (line_text (line_at l k)) h → HasWritten took f (lines_text l (k + 1)) h
  put_line k f g h p q = has_written_of_eq took f (lines_text l k ++ line_text (line_at l k)) (lines_text l (k + 1)) h (sym (lines_next l k)) (has_written_append took f (lines_text l k) g (line_text (line_at l k)) h p q)
