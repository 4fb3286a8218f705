-- What was loaded is what the bytes tell that were read.
use Rattle.std.proofs.Common.{◌≡◌, Bool, true, false, ◌∙◌, sym, ap, refl, Ok, Err}
use Rattle.std.specs.Prelude.{◌↔◌}
use Rattle.rbc_streams.specs.declared.whole.WholeFault.TheVariants.{Read}
use Rattle.rbc_trackfile.specs.Told.{track_told}
use Rattle.rbc_trackfile.proofs.loading.load.Goals as goal

-- the reader has not failed where its bytes were read
works : {A : Type 0} (failed : Bool) (bytes : A) → ((Ok bytes ≡ Err Read) ↔ (failed ≡ true)) → failed ≡ false
works {A} true bytes both = let wrong : Ok bytes ≡ Err Read = both.1 refl in absurd cc
works false bytes both = refl

pub returns : goal.returns
returns g c = (
  c.in_ok-bytes.bytes.items,
  record {
    read = (c.in_ok-bytes.ensures.whole).0;
    at_end = (c.in_ok-bytes.ensures.whole).1;
    found_end = c.in_ok-bytes.ensures.ended;
    short = c.in_ok-bytes.ensures.short;
    works = works (g.R.Source.failed c.read_whole.new.reader) c.in_ok-bytes.bytes c.in_ok-bytes.ensures.read;
  },
  ap track_told (sym c.as_slice.ensures.value) ∙ c.in_ok-read.ensures.track,
)
