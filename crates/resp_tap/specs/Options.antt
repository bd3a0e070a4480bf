-- How the results of a tap are printed.
use Rattle.resp_tap.specs.declared.print.Printing.{Printing}
use Rattle.resp_tap.specs.declared.print.TextOptions.{TextOptions}
use Rattle.resp_tap.specs.declared.tap.Tap.{Tap}

-- as the caller asks for, with the bytes of each text that the tap shows, and those of each word that it keeps
abbrev pub options_of : Printing → Tap → TextOptions
options_of printing t = record {
  client = printing.client;
  shows_passwords = printing.shows_passwords;
  shown = t.values.shown;
  kept = t.requests.shown;
}
