-- What the contracts of cover say.
pub mod Coverage
