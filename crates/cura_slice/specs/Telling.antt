-- How a topic is told.
use Rattle.std.specs.Prelude.{ℕ, ◌≡◌, ◌⊎◌, List}
use Rattle.outside.specs.Output.{Output, Put, PutFront}
use Rattle.cura_slice.specs.declared.help.TheConstants.{USAGE, MESSAGES, VERSION}
use Rattle.cura_slice.specs.declared.help.Topic.{Topic}
use Rattle.cura_slice.specs.declared.help.Topic.TheVariants.{Usage, Settings, Messages, Version}
use Rattle.cura_slice.specs.Listing.{listing_text}

-- the text of a topic
abbrev pub text_of : Topic → List ℕ
text_of Usage = USAGE.now
text_of Settings = listing_text
text_of Messages = MESSAGES.now
text_of Version = VERSION.now

-- What a status says of the console: 0 that it got the whole text; 7 that it got a front of the text and failed; 6, of
-- the table of settings alone, that it is as before, for want of memory. No other status comes.
abbrev pub Told : ℕ → Topic → Output → Output → Type 0
Told status topic before after =
    ((status ≡ 0) × Put before (text_of topic) after)
    ⊎ ((status ≡ 7) × PutFront before (text_of topic) after)
    ⊎ ((status ≡ 6) × (topic ≡ Settings) × (after ≡ before))
