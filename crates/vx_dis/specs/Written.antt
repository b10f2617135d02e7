-- What a listing that stops leaves on its sink. This project's own.
use Rattle.std.specs.Prelude.{◌≡◌, ℕ, List}
use Rattle.vx_base.specs.Sink.{SinkState, IsBegun, IsCutOff}
use Rattle.vx_dis.specs.declared.listing.ListingFault.{ListingFault}
use Rattle.vx_dis.specs.declared.listing.ListingFault.TheVariants.{Write, NoMemory}

-- what each reason to stop in a text says
abbrev pub Stops : SinkState → SinkState → List ℕ → ListingFault → Type 0
Stops before after text Write = IsCutOff before after text
Stops before after text NoMemory = IsBegun before after text × (after.faults ≡ before.faults)
